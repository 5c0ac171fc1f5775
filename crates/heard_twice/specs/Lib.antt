pub mod HeardTwice
