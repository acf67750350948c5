pub mod Lists
pub mod Kept
pub mod Places
pub mod Chains
pub mod Stores
pub mod Occurs
