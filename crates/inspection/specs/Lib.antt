pub mod Address
pub mod Report
pub mod InspectMms
pub mod InspectGoose
pub mod InspectSv
pub mod Calls
pub mod CallTheorems
pub mod Points
