pub mod OneChunk
pub mod ChunkWalk
pub mod Passing
