pub mod PackedWord
