pub mod RaggedLaws
pub mod RaggedWritten
