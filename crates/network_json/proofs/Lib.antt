pub mod Places
pub mod BackNames
pub mod BackNodes
pub mod BackNetwork
