-- docs/SPEC.md, S15.4: what holds of the arrangements.
-- Each is a valid array in rest form, with zero bytes and lengths up to 3, and each such array comes up for just one number.
-- Assumes nothing.
use Rattle.std.specs.Prelude.{ℕ, suc, ◌+◌, ◌*◌, ◌<◌, ◌≤◌, ◌≡◌, List, ◌∷◌, length}
use Rattle.array.specs.Answer.{gives}
use Rattle.array.specs.Lists.{All}
use Rattle.array.specs.Kind.{Kind, Masks, Place, FormOk, ragged}
use Rattle.array.specs.Shape.{volume, ShapeOk}
use Rattle.array.specs.Content.{Content, Valid, values_in, rest_form}
use Rattle.array.specs.Buffers.{lengths_of, Enough, content_outcome}
use Rattle.arrange.specs.Arrangement.{states, arrangement_count, states_of, arrangement}
use Rattle.arrange.specs.Calls.{arranged}

-- a valid array in rest form, with zero bytes and lengths up to 3
pub record SmallRest (k : Kind) (shape : List ℕ) (c : Content) : Type 0 where
  pub valid : Valid k shape c
  pub rests : rest_form k (volume shape) c ≡ c
  pub zeros : All (λ b. b ≡ 0) c.values
  pub short : All (λ v. length v ≤ 3) (values_in k.form (volume shape) c)

-- one number gives it, and no other does
pub record JustOne (d n : ℕ) (c : Content) : Type 0 where
  pub number : ℕ
  pub below : number < arrangement_count d n
  pub here : arrangement d n number ≡ c
  pub only : (i : ℕ) → i < arrangement_count d n → arrangement d n i ≡ c → i ≡ number

pub record Complete (k : Kind) (shape : List ℕ) : Type 0 where
  pub each : (i : ℕ) → i < arrangement_count k.depth (volume shape) → SmallRest k shape (arrangement k.depth (volume shape) i)
  pub every_one : (c : Content) → SmallRest k shape c → JustOne k.depth (volume shape) c
  -- nothing but 6 is refused
  pub given : (i : ℕ) → i < arrangement_count k.depth (volume shape) → (out : Content) → Enough (arrangement k.depth (volume shape) i) (lengths_of out)
      → arranged k.depth (volume shape) i out ≡ content_outcome (gives (arrangement k.depth (volume shape) i)) out

-- the first cell weighs most: with state i before arrangement j of the n others the number is i × their count + j
abbrev pub FirstWeighsMost : Type 0
FirstWeighsMost = (d n i j : ℕ) → i < states d → j < arrangement_count d n → states_of d (suc n) (i * arrangement_count d n + j) ≡ i ∷ states_of d n j

-- for each ragged kind of depth 0 to 2, and each shape of 1 to 4 cells
abbrev pub Arrangements : Type 0
Arrangements =
    (d : ℕ) (x : Masks) (w : ℕ) (p : Place) → d ≤ 2 → FormOk (ragged w p) → (shape : List ℕ) → ShapeOk shape → volume shape ≤ 4
    → Complete (record { depth = d; masks = x; form = ragged w p }) shape
