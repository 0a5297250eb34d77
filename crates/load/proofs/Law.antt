-- A load is a valid array in rest form, and determined (specs/Law).
-- Assumes nothing.
use mathlib.Core.Path.{◌≡◌, refl, sym, ap, ◌∙◌}
use Prim.Native.Nat.{ℕ, ◌<◌}
use native.Mathlib.Nat.{mul-le-mul}
use native.Mathlib.Omega.{arith}
use mathlib.Core.List.{List}
use Rattle.array.specs.Answer.{Answer, gives, unless}
use Rattle.array.specs.Limits.{most_bytes, most_cells}
use Rattle.array.specs.Lists.{All}
use Rattle.array.specs.Kind.{Kind, KindOk, Form, fixed, ragged}
use Rattle.array.specs.Shape.{volume, ShapeOk, shape_test}
use Rattle.array.specs.Cells.{Value, Cell, leaf}
use Rattle.array.specs.Content.{Content, leaves, layout}
use Rattle.array.specs.declared.answer.Lengths.{Lengths}
use Rattle.array.specs.Buffers.{lengths_of, enough_test, content_outcome}
use Rattle.array.proofs.Answers.{pass}
use Rattle.array.proofs.Lists.{All-map, All-image, All-joined}
use Rattle.array.proofs.Rules.{kind_test_lem, shape_test_lem, enough_test_lem}
use Rattle.array.proofs.Sizes.{OfSize}
use Rattle.array.proofs.LayoutLaws.{Good}
use Rattle.array.proofs.RestLaws.{StrictCell}
use Rattle.array.proofs.Resting.{Rests, laid_valid, laid_rests}
use Rattle.load.specs.Generator.{Drew}
use Rattle.load.specs.Load.{draw_value, draw_cells, load_of}
use Rattle.load.specs.Calls.{generate_answer, generated}
use Rattle.load.specs.Law.{SameSize, LoadLaw, Loads}
use Rattle.load.proofs.Drawn.{longest_small, DrawnCell, drawn_cells, drawn_count, drawn_total, same_cells}

-- ---- forms that are alike

laid_same : (f g : Form) → SameSize f g → (d n s : ℕ) → layout f d (draw_cells f d n s).made ≡ layout g d (draw_cells g d n s).made
unfolding draw_value
laid_same (fixed k o) (fixed k' o') e d n s =
    ap (λ (r : Drew (List (Cell d))). layout (fixed k o) d r.made) (same_cells (fixed k o) (fixed k o') (λ t. refl) refl d n s)
    ∙ ap (λ (m : ℕ). layout (fixed m o') d (draw_cells (fixed m o') d n s).made) e
laid_same (fixed k o) (ragged w p) e d n s = absurd e
laid_same (ragged w p) (fixed k o) e d n s = absurd e
laid_same (ragged w p) (ragged w' p') e d n s =
    ap (λ (r : Drew (List (Cell d))). layout (ragged w' p') d r.made) (same_cells (ragged w p) (ragged w' p') (λ t. refl) refl d n s)

pub load_same : (j k : Kind) (shape : List ℕ) (s : ℕ) → j.depth ≡ k.depth → SameSize j.form k.form → load_of j shape s ≡ load_of k shape s
load_same j k shape s e a =
    ap (λ (d : ℕ). layout j.form d (draw_cells j.form d (volume shape) s).made) e ∙ laid_same j.form k.form a k.depth (volume shape) s

-- ---- the law

module _ (k : Kind) (ok : KindOk k) (shape : List ℕ) (sh : ShapeOk shape) (s : ℕ) where
  abbrev cells : List (Cell k.depth)
  cells = (draw_cells k.form k.depth (volume shape) s).made

  drawn : All (DrawnCell k.form k.depth) cells
  drawn = drawn_cells k.form k.depth (volume shape) s

  -- what holds of each drawn cell holds of all
  each : (P : Cell k.depth → Type 0) → ((c : Cell k.depth) → DrawnCell k.form k.depth c → P c) → All P cells
  each P f = All-map (DrawnCell k.form k.depth) P f cells drawn

  of_values : (P : Value → Type 0) → ((c : Cell k.depth) → DrawnCell k.form k.depth c → P (leaf k.depth c)) → All P (leaves k.depth cells)
  of_values P f = All-image P (leaf k.depth) cells (each (λ c. P (leaf k.depth c)) f)

  good : Good k (volume shape) cells
  unfolding most_bytes most_cells
  good =
      record {
        counted = drawn_count k.form k.depth (volume shape) s;
        sized = of_values (OfSize k.form) (λ c r. r.value.sized);
        strict = each (StrictCell k.depth) (λ c r. r.strict);
        small = omega (arith, drawn_total k.form k.depth (volume shape) s, mul-le-mul sh.few_cells (longest_small k.form ok.sound));
      }

  -- the answer for a kind in order, over what was drawn
  abbrev answer_for : Lengths → Content → Answer Content
  answer_for room c = unless (shape_test shape) 2 (unless (enough_test c room) 6 (gives c))

  answered : (j : Kind) → KindOk j → (room : Lengths) → generate_answer j shape s room ≡ answer_for room (load_of j shape s)
  unfolding generate_answer
  answered j jo room = pass 1 (kind_test_lem j jo) refl

  load_law : LoadLaw k shape s
  unfolding generated
  load_law = record {
    valid = laid_valid ok sh good;
    rests = laid_rests good (each (Rests k) (λ c r. r.rests));
    bytes = All-joined (λ b. b < 256) (leaves k.depth cells) (of_values (λ v. All (λ b. b < 256) v) (λ c r. r.value.bytes));
    given = λ out e. ap (λ (a : Answer Content). content_outcome a out)
        (answered k ok (lengths_of out) ∙ pass 2 (shape_test_lem shape sh) (pass 6 (enough_test_lem (load_of k shape s) (lengths_of out) e) refl));
    determined = λ j jo e a out. ap (λ (x : Answer Content). content_outcome x out)
        (answered j jo (lengths_of out) ∙ ap (answer_for (lengths_of out)) (load_same j k shape s e a) ∙ sym (answered k ok (lengths_of out)));
  }

pub loads : Loads
loads k ok shape sh s = load_law k ok shape sh s
