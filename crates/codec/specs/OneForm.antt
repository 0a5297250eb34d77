-- docs/SPEC.md, S8.9, S8.10: one stored form for each table.
-- For any one kind and shape, a byte string that decode accepts, read and written again, comes out as the very same bytes; so two accepted
-- strings that read as equal arrays are equal. A kind's masks may lie in bytes or in bits. The older form lies outside, because of its tail.
-- Assumes nothing.
use Rattle.std.specs.Prelude.{ℕ, ◌≤◌, ◌≡◌, List, ◌++◌, length, drop}
use Rattle.array.specs.Answer.{Answer, gives, refuses, map_answer, Outcome}
use Rattle.array.specs.Bytes.{AllBytes}
use Rattle.array.specs.Kind.{Kind}
use Rattle.array.specs.Content.{Content}
use Rattle.array.specs.Buffers.{taken}
use Rattle.codec.specs.Calls.{encoded, decoded}

module _ (k : Kind) (shape : List ℕ) where
  -- s is accepted, and back is long enough for what is read
  pub record Reads (s : List ℕ) (back : Content) : Type 0 where
    -- as in every slice of bytes
    pub bytes : AllBytes s
    -- decode refuses with nothing but, perhaps, 6
    pub accepted : (any : Content) (r : ℕ) → (decoded k shape s any).answer ≡ refuses r → r ≡ 6
    pub long_enough : (decoded k shape s back).answer ≡ refuses 6 → ⊥

  -- s read into back; then what lies there, up to the lengths that decode's answer names, written into out
  abbrev pub read_then_written : List ℕ → Content → List ℕ → Answer (Outcome ℕ (List ℕ))
  read_then_written s back out = map_answer (λ a. encoded k shape a.content out) (taken (decoded k shape s back))

-- S8.9: neither call refuses; encode names as many bytes as s has, out begins with s, and what lies beyond is as it was
abbrev pub WrittenAgain : Type 0
WrittenAgain =
    (k : Kind) (shape s : List ℕ) (back : Content) → Reads k shape s back → (out : List ℕ) → length s ≤ length out
    → read_then_written k shape s back out ≡ gives (record { answer = gives (length s); buffers = s ++ drop (length s) out })

-- S8.10: equal are the lengths that are named, and the masks, values and offsets up to them
abbrev pub OneForm : Type 0
OneForm =
    (k : Kind) (shape s t : List ℕ) (back back' : Content) → Reads k shape s back → Reads k shape t back'
    → taken (decoded k shape s back) ≡ taken (decoded k shape t back') → s ≡ t
