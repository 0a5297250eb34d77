-- What a preview answers, by where it ends: a refusal of the setting, or what a walk over the other cells says of the table after it.
-- Assumes nothing.
use mathlib.Core.Path.{◌≡◌, refl, sym, ap, ap₂, ◌∙◌}
use mathlib.Core.Bool.{not}
use mathlib.Core.List.{List, [], ◌∷◌, map}
use Prim.Native.Nat.{ℕ, ◌+◌, ◌≤◌, ◌<◌}
use native.Mathlib.Omega.{arith}
use lib.ListN.{length, get_or, set}
use lib.Dec.{eqb}
use Rattle.array.specs.Answer.{Answer, gives, map_answer}
use Rattle.array.specs.Kind.{Kind}
use Rattle.array.specs.Lists.{All}
use Rattle.array.specs.Cells.{Value, Cell, Strict, leaf}
use Rattle.array.specs.Places.{sum, offset_at, cell_by}
use Rattle.array.proofs.Lists.{All-get_or}
use Rattle.array.proofs.RestLaws.{StrictCell, strict_rest, rest_again}
use Rattle.table.specs.Table.{Table, most_store, start_of, length_of, ending}
use Rattle.table.specs.Lying.{displaced}
use Rattle.table.specs.Setting.{setting_of, settled}
use Rattle.table.specs.declared.lent.Setting.{Setting}
use Rattle.table.specs.Calls.{set_answer, looked_at, previewed}
use Rattle.table.specs.Walk.{InOrder, without, unpacked_by}
use Rattle.table.proofs.Order.{All-passing, lies_below, sum_fits}
use Rattle.table.proofs.Each.{strict_by_lem}
use Rattle.table.proofs.Packing.{top_least}
use Rattle.table.proofs.Setting.{settles}
use Rattle.table.proofs.Foreseeing.{lies_of, lying_sum, unpacked_is}
use Rattle.table_check.specs.Check.{Reached}
use Rattle.table_setting.specs.declared.fit.Fitting.{Fitting}
use Rattle.table_setting.specs.Fit.{fitted}
use Rattle.table_setting.specs.Settle.{Sound, Ready, settled_by, setting_answer}
use Rattle.table_setting.proofs.Judging.{ready, others_known, fitted_is}
use Rattle.table_preview.specs.Others.{Walkable, Found}

pub preview_is : (k : Kind) (n : ℕ) (t : Table) (u : Setting) {a : Answer Table} → a ≡ set_answer k n t u.cell u.masks.now u.value.now
    → map_answer (looked_at n) a ≡ previewed k n t u.cell u.masks.now u.value.now
unfolding previewed
preview_is k n t u e = ap (map_answer (looked_at n)) e

-- ---- a table and a setting that keep their rules

module _ {room : ℕ} {t : Table} {ms : List ℕ} (s : Sound room t ms) (c : ℕ) (v : Value) {js : List ℕ} (o : InOrder (length t.starts) t js) where
  abbrev n : ℕ
  n = length t.starts

  abbrev d : ℕ
  d = length ms

  abbrev x : Cell d
  x = setting_of d ms v

  -- it does not fit, or what is there after it is looked at
  pub fits_by : {a : Answer Fitting} → a ≡ fitted t.lengths (length t.store) c ms (length v)
      → map_answer (looked_at n) (map_answer (λ f. settled_by c ms v t) a) ≡ map_answer (looked_at n) (setting_answer c ms v t)
  fits_by e = ap (map_answer (looked_at n)) (ap (map_answer (λ f. settled_by c ms v t)) e ∙ fitted_is s c v)

  module _ {f : Fitting} (fits : fitted t.lengths (length t.store) c ms (length v) ≡ gives f) where
    is_ready : Ready room t c ms v f.size
    is_ready = ready s c v fits

    pub walkable : Walkable t.starts t.lengths js
    unfolding most_store
    walkable = record {
      reached =
          All-both (λ j. j < n) (λ j. ending (start_of t) (length_of t) j ≤ length t.store) (Reached t.starts t.lengths)
          (λ j low end. record { has_start = low; has_length = omega (arith, s.table.lengths_fit); ends_low = omega (arith, is_ready.small) }) js (lies_below (lies_of o)) o.ends;
      small =
          omega (
            arith,
            ap (λ (ks : List ℕ). sum (map (length_of t) ks)) o.lying,
            lying_sum t n s.table,
            sum_fits t n s.table.placed s.table.apart s.table.lengths_fit,
            is_ready.small,
          );
    }
      where
        All-both : (P Q R : ℕ → Type 0) → ((j : ℕ) → P j → Q j → R j) → (xs : List ℕ) → All P xs → All Q xs → All R xs
        All-both P Q R h [] p q = tt
        All-both P Q R h (y ∷ ys) p q = (h y p.0 q.0, All-both P Q R h ys p.1 q.1)

    module _ {unpacked top : ℕ} (g : Found (offset_at t.starts) (offset_at t.lengths) c js unpacked top) where
      pub top_low : top ≤ length t.store
      top_low =
          omega (
            arith,
            g.ends,
            top_least (start_of t) (length_of t) (length t.store) (without c js)
                (All-passing (λ j. not (eqb j c)) (λ j. ending (start_of t) (length_of t) j ≤ length t.store) js o.ends),
          )

      strict : StrictCell d x
      strict =
          let m : ℕ → ℕ = λ l. get_or ms l 0 in
          strict_rest [] d (cell_by m v d 0) (strict_by_lem m v (λ l. All-get_or Strict 0 (omega arith) ms s.setting.strict l) d 0)

      total_is : sum (settled_by c ms v t).lengths ≡ f.others + f.size
      unfolding settled
      total_is =
          (settles s.table c is_ready.low x strict (rest_again [] d (cell_by (λ l. get_or ms l 0) v d 0)) is_ready.fits (leaf d x) refl).total
          ∙ ap₂ ◌+◌ (sym (others_known s c v fits)) (sym is_ready.sized)

      left_is : length (displaced (settled_by c ms v t) n) ≡ unpacked_by unpacked top f.others f.size (length t.store)
      unfolding settled
      left_is =
          unpacked_is s.table c is_ready.low x strict (rest_again [] d (cell_by (λ l. get_or ms l 0) v d 0)) o (leaf d x) refl is_ready.fits
          ∙ ap₂ (λ (u p : ℕ). unpacked_by u p (sum (set t.lengths c 0)) (length (leaf d x)) (length t.store)) (sym g.elsewhere) (sym g.ends)
          ∙ ap₂ (λ (m q : ℕ). unpacked_by unpacked top m q (length t.store)) (sym (others_known s c v fits)) (sym is_ready.sized)

      pub looked : {total left : ℕ} → total ≡ f.others + f.size → left ≡ unpacked_by unpacked top f.others f.size (length t.store)
          → gives (record { total = total; unpacked = left }) ≡ map_answer (looked_at n) (setting_answer c ms v t)
      looked {total} {left} e h = go (e ∙ sym total_is) (h ∙ sym left_is) ∙ fits_by (sym fits)
        where
          go : total ≡ sum (settled_by c ms v t).lengths → left ≡ length (displaced (settled_by c ms v t) n)
              → gives (record { total = total; unpacked = left }) ≡ gives (looked_at n (settled_by c ms v t))
          go p q = rw (p, q)
