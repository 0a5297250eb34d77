-- The laws' hypotheses can be met: a table of two cells read under two planes, one cell cut from it, and the table merged of two parts of one cell each.
-- Assumes nothing.
use mathlib.Core.Path.{◌≡◌, refl}
use mathlib.Core.List.{List, [], ◌∷◌}
use Prim.Native.Nat.{ℕ, zero, suc}
use native.Mathlib.Omega.{arith}
use lib.Dec.{lit≤, lit<}
use Rattle.array.specs.Answer.{gives, refuses}
use Rattle.array.specs.Limits.{most_cells, most_bytes}
use Rattle.array.specs.Lists.{All}
use Rattle.array.specs.Kind.{Kind, byte_kind, ragged, at_start}
use Rattle.array.specs.Content.{Content, Valid}
use Rattle.array.proofs.Rules.{kind_ok, shape_ok, array_ok, strict_bytes_ok, numbers_ok}
use Rattle.rights.specs.Rights.{RightsOk}
use Rattle.rights.specs.Calls.{guest_read}
use Rattle.chunks.specs.Calls.{merge_answer, merged}
use Rattle.chunks.specs.Demand.{Covers}
use Rattle.rights_laws.specs.Planes.{both}
use Rattle.rights_laws.specs.Laws.{TwiceLaw, Part, PartOk, subsets_in, numbers_of, laid_out, array_in, read_then_read, read_then_cut, cut_then_read, read_then_merge, merge_then_read}
use Rattle.rights_laws.proofs.Twice.{twice}
use Rattle.rights_laws.proofs.Cuts.{cuts}
use Rattle.rights_laws.proofs.Merges.{merges}

abbrev single : Kind
single = byte_kind 1 (ragged 8 at_start)

abbrev array : List ℕ → List ℕ → List ℕ → Content
array ms vs os = record { masks = ms; values = vs; offsets = os }

abbrev shape : List ℕ
shape = 2 ∷ []

abbrev cells : Content
cells = array (1 ∷ 1 ∷ []) (7 ∷ 8 ∷ []) (0 ∷ 1 ∷ 2 ∷ [])

-- the first plane hides the second cell, the second plane none
abbrev first : List ℕ
first = 1 ∷ 0 ∷ []

abbrev second : List ℕ
second = 1 ∷ 1 ∷ []

-- lent outputs, long enough for all
abbrev lent : Content
lent = array (9 ∷ 9 ∷ []) (9 ∷ 9 ∷ []) (9 ∷ 9 ∷ 9 ∷ [])

valid : Valid single shape cells
unfolding most_cells most_bytes
valid = record { kind = kind_ok single refl; shaped = shape_ok shape refl; content = array_ok single 2 cells refl; small = lit≤ tt }

first_ok : RightsOk 2 first
first_ok = strict_bytes_ok 2 first refl

-- ---- two planes

law : TwiceLaw single shape first second cells
law = twice single shape first second cells valid (lit< tt) first_ok (strict_bytes_ok 2 second refl)

pub in_turn : read_then_read single shape first second cells lent lent ≡ guest_read single shape (both first second) cells lent
in_turn = law.first lent lent (record { for_masks = lit≤ tt; for_values = lit≤ tt; for_offsets = lit≤ tt })

-- ---- the second cell cut

abbrev numbers : List ℕ
numbers = 1 ∷ 1 ∷ []

abbrev one_lent : Content
one_lent = array (9 ∷ []) (9 ∷ []) (9 ∷ 9 ∷ [])

pub cut : read_then_cut single shape first numbers cells lent one_lent ≡ cut_then_read single shape first numbers cells one_lent one_lent one_lent
cut =
    cuts single shape first numbers cells valid (lit< tt) first_ok (record { numbers = numbers_ok shape numbers refl; full = (lit≤ tt, tt) }) lent one_lent one_lent
    (record { for_masks = lit≤ tt; for_values = lit≤ tt; for_offsets = lit≤ tt }) (record { for_masks = lit≤ tt; for_values = lit≤ tt; for_offsets = lit≤ tt }) (lit≤ tt) one_lent

-- ---- two parts of one cell each

abbrev left : Part
left = record { subset = 0 ∷ 1 ∷ []; array = array (1 ∷ []) (7 ∷ []) (0 ∷ 1 ∷ []); rights = 1 ∷ []; seen = one_lent }

abbrev right : Part
right = record { subset = 1 ∷ 1 ∷ []; array = array (1 ∷ []) (8 ∷ []) (0 ∷ 1 ∷ []); rights = 0 ∷ []; seen = one_lent }

abbrev parts : List Part
parts = left ∷ right ∷ []

valid_left : Valid single (1 ∷ []) left.array
unfolding most_cells most_bytes
valid_left = record { kind = kind_ok single refl; shaped = shape_ok (1 ∷ []) refl; content = array_ok single 1 left.array refl; small = lit≤ tt }

valid_right : Valid single (1 ∷ []) right.array
unfolding most_cells most_bytes
valid_right = record { kind = kind_ok single refl; shaped = shape_ok (1 ∷ []) refl; content = array_ok single 1 right.array refl; small = lit≤ tt }

left_ok : PartOk single shape left
left_ok = record {
  numbers = numbers_ok shape left.subset refl;
  full = (lit≤ tt, tt);
  valid = valid_left;
  rights = strict_bytes_ok 1 left.rights refl;
  seen = record { for_masks = lit≤ tt; for_values = lit≤ tt; for_offsets = lit≤ tt };
}

right_ok : PartOk single shape right
right_ok = record {
  numbers = numbers_ok shape right.subset refl;
  full = (lit≤ tt, tt);
  valid = valid_right;
  rights = strict_bytes_ok 1 right.rights refl;
  seen = record { for_masks = lit≤ tt; for_values = lit≤ tt; for_offsets = lit≤ tt };
}

parts_ok : All (PartOk single shape) parts
parts_ok = (left_ok, (right_ok, tt))

cover : Covers shape (subsets_in shape parts)
cover zero h = refl
cover (suc zero) h = refl
cover (suc (suc i)) h = absurd (omega arith)

refused_given : {A : Type 0} {x : A} {e : ℕ} → gives x ≡ refuses e → ⊥
refused_given q = let z : ◌≡◌ {A = ℕ} 0 1 = cc in omega arith

not_refused : (e : ℕ) → (merged single shape (numbers_of parts) (laid_out array_in parts) lent).answer ≡ refuses e → ⊥
unfolding merged merge_answer most_cells most_bytes
not_refused e q = refused_given q

pub merge : read_then_merge single shape parts lent ≡ merge_then_read single shape parts lent lent lent
merge = merges single shape valid.kind valid.shaped (lit< tt) parts parts_ok cover lent lent not_refused (lit≤ tt) lent
