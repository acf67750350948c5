-- Read beside document 01 and request (v).
pub mod Places
pub mod Chart
pub mod Bytes
pub mod Closing
pub mod Decode
pub mod Pieces
