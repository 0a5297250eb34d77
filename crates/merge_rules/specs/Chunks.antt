-- Redundant by the laws found and refused in merge_output/proofs/Totals.antt: the checking walk over a chunk list (S3.6, refusal 4).
-- What it answers of one chunk, and of all.
-- Assumes nothing.
use Rattle.std.specs.Prelude.{ℕ, Bool, ◌&&◌, List, [], ◌∷◌, length, take, leb, Option, Some, None}
use Rattle.array.specs.Answer.{Answer, gives, refuses, unless}
use Rattle.array.specs.Kind.{Kind, Form}
use Rattle.array.specs.Shape.{volume}
use Rattle.array.specs.Subset.{Subset, lengths}
use Rattle.array.specs.Content.{Content, array_test}
use Rattle.chunks.specs.Chunks.{offset_count, value_count, first_chunk, later_chunks, nothing_test}
use Rattle.merge_rules.specs.declared.Chunk.{Chunk}

-- the value bytes of a chunk of m cells, where the offsets os are left
abbrev pub chunk_taken : Form → ℕ → List ℕ → ℕ
chunk_taken f m os = value_count f m (take (offset_count f m) os)

-- what a chunk takes: its value bytes, its offsets
abbrev pub takes : ℕ → ℕ → Answer (ℕ × ℕ)
takes v o = gives (v, o)

abbrev pub chunk_takes : Form → ℕ → List ℕ → Answer (ℕ × ℕ)
chunk_takes f m os = takes (chunk_taken f m os) (offset_count f m)

-- what it takes by its offsets alone, where they are there
abbrev pub size_answer : Form → ℕ → List ℕ → Answer (ℕ × ℕ)
size_answer f m os = unless (leb (offset_count f m) (length os)) 4 (chunk_takes f m os)

-- what the first of the chunks that are left takes, where it keeps the array's rules
unfoldable pub chunk_answer : Kind → ℕ → Content → Answer (ℕ × ℕ)
chunk_answer k m c = unless (array_test k m (first_chunk k m c)) 4 (chunk_takes k.form m c.offsets)

-- whether every chunk keeps them, and nothing is left over
abbrev pub chunks_test : Kind → List Subset → Content → Bool
chunks_test k [] c = nothing_test c
chunks_test k (b ∷ bs) c = array_test k (volume (lengths b)) (first_chunk k (volume (lengths b)) c) && chunks_test k bs (later_chunks k (volume (lengths b)) c)

-- as the code answers
abbrev pub told_chunk : Option Chunk → Answer (ℕ × ℕ)
told_chunk (Some c) = takes c.bytes c.numbers
told_chunk None = refuses 4
