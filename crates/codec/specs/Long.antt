-- docs/SPEC.md, S10.55: long arrays, proved and not run. What is answered at the limit, and at the limits of 4-byte offsets and lengths,
-- for any bytes of that length.
-- Assumes nothing.
use Rattle.std.specs.Prelude.{ℕ, suc, ◌≤◌, ◌≡◌, List, [], ◌∷◌, ◌++◌, length}
use Rattle.array.specs.Answer.{gives, refuses, Outcome}
use Rattle.array.specs.Kind.{Kind, byte_kind, Place, ragged}
use Rattle.array.specs.Content.{Content}
use Rattle.array.specs.Buffers.{list_outcome}
use Rattle.codec.specs.Calls.{stored_form, encoded, interleaved_encoded}

-- one cell of depth 0
abbrev pub one_cell : List ℕ → Content
one_cell vs = record { masks = []; values = vs; offsets = 0 ∷ length vs ∷ [] }

-- two cells of depth 1, the long one hidden
abbrev pub long_hidden : List ℕ → ℕ → Content
long_hidden vs b = record { masks = 0 ∷ 1 ∷ []; values = vs ++ (b ∷ []); offsets = 0 ∷ length vs ∷ suc (length vs) ∷ [] }

abbrev pub flat_of : ℕ → Place → Kind
flat_of w p = byte_kind 0 (ragged w p)

abbrev pub refused : ℕ → List ℕ → Outcome ℕ (List ℕ)
refused k out = record { answer = refuses k; buffers = out }

pub record LongLines : Type 0 where
  -- as many value bytes as there may be are written in width 8, in 8 + 16 bytes more; one more is 5
  pub most : (p : Place) (vs out : List ℕ) → length vs ≡ 8589934592 → 8589934616 ≤ length out
      → encoded (flat_of 8 p) (1 ∷ []) (one_cell vs) out ≡ list_outcome (gives (stored_form (flat_of 8 p) 1 (one_cell vs))) out
  pub one_more : (p : Place) (vs out : List ℕ) → length vs ≡ 8589934593 → encoded (flat_of 8 p) (1 ∷ []) (one_cell vs) out ≡ refused 5 out
  -- in width 4: 20 before 6; one byte less can be written, and then too short an output is 6; 5 comes before 20
  pub narrow : (p : Place) (vs out : List ℕ) → length vs ≡ 4294967296 → encoded (flat_of 4 p) (1 ∷ []) (one_cell vs) out ≡ refused 20 out
  pub narrow_less : (p : Place) (vs : List ℕ) → length vs ≡ 4294967295 → encoded (flat_of 4 p) (1 ∷ []) (one_cell vs) [] ≡ refused 6 []
  pub narrow_most : (p : Place) (vs out : List ℕ) → length vs ≡ 8589934593 → encoded (flat_of 4 p) (1 ∷ []) (one_cell vs) out ≡ refused 5 out
  -- hidden bytes are not written, and do not count
  pub hidden : (p : Place) (vs : List ℕ) (b : ℕ) → length vs ≡ 4294967296 → encoded (byte_kind 1 (ragged 4 p)) (2 ∷ []) (long_hidden vs b) [] ≡ refused 6 []
  -- the older form goes by cells, and by no width
  pub older : (p : Place) (vs out : List ℕ) → length vs ≡ 4294967296 → interleaved_encoded (flat_of 8 p) (1 ∷ []) (one_cell vs) out ≡ refused 20 out
  pub older_less : (p : Place) (vs : List ℕ) → length vs ≡ 4294967295 → interleaved_encoded (flat_of 4 p) (1 ∷ []) (one_cell vs) [] ≡ refused 6 []
