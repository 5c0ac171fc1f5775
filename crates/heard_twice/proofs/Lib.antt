pub mod SecondCopy
pub mod RawCopies
pub mod HeardTwiceHolds
pub mod HeardTwiceInstances
