pub mod Embedding
pub mod Owned
