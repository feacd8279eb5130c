pub mod PathSums
pub mod PolicyBound
pub mod RestBound
pub mod ListedLeast
