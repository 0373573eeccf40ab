mod Examples
pub mod CidTest
pub mod HeadLaws
pub mod Sound
pub mod Complete
pub mod Seen
pub mod Laws
pub mod Parts
pub mod Fronts
pub mod Absent
pub mod Refusing
pub mod Left
pub mod Standing
pub mod Named
pub mod Refusals
pub mod FrontKinds
pub mod Rows
pub mod FirstLinks
