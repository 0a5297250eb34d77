-- The check of a live table: one law for each answer, and what is known on the way.
-- Assumes nothing.
use mathlib.Core.Path.{◌≡◌, refl, sym, ap, ◌∙◌}
use Prim.Native.Nat.{ℕ}
use mathlib.Core.Bool.{Bool, true, false, ◌&&◌}
use mathlib.Core.List.{List}
use Rattle.array.specs.Answer.{Answer, refuses, unless, map_answer}
use Rattle.array.specs.Shape.{volume, shape_test}
use Rattle.array.specs.Subset.{many_test, cells_of_all}
use Rattle.array.specs.Cells.{Value}
use Rattle.array.proofs.Rules.{shape_ok, many_ok}
use Rattle.valid.specs.ShapeCells.{shape_answer}
use Rattle.valid.proofs.ShapeLaws.{not_counted}
use Rattle.subset.specs.Subsets.{SubsetsOk}
use Rattle.chunks.specs.Gather.{once_test}
use Rattle.migrate.specs.Live.{LiveTable, read_chunks, chunk_subsets, stored_chunks, lists_test, chunk_values}
use Rattle.migrate_check.specs.Chunks.{bytes_at}

module _ (t : LiveTable) (asked : Bool) where
  abbrev read : Answer (List (List Value))
  read = read_chunks (chunk_subsets t) (stored_chunks t)

  abbrev once : Bool
  once = once_test (volume t.shape) (cells_of_all t.shape (chunk_subsets t))

  abbrev checked : Bool → Bool → Bool → Bool → Bool → Answer ℕ
  checked shaped many listed covered a =
      map_answer (bytes_at t.moved) (unless shaped 2 (unless (many && a) 3 (unless listed 4 (unless covered 12 read))))

  abbrev told : Answer ℕ
  told = map_answer (bytes_at t.moved) (chunk_values asked t)

  answered : {a b l o : Bool} → shape_test t.shape ≡ a → many_test t.shape t.subsets ≡ b → lists_test t ≡ l → once ≡ o → told ≡ checked a b l o asked
  unfolding chunk_values
  answered p q r u = rw (p, q, r, u)

  pub no_shape : {number : ℕ} → refuses number ≡ shape_answer t.shape → refuses number ≡ told
  no_shape {number} e =
      let n = not_counted t.shape number e in
      rw n.1 (sym (answered {b = many_test t.shape t.subsets} {l = lists_test t} {o = once} n.0 refl refl refl))

  module _ (p : shape_test t.shape ≡ true) where
    pub no_subsets : many_test t.shape t.subsets ≡ false → refuses 3 ≡ told
    no_subsets q = sym (answered {l = lists_test t} {o = once} p q refl refl)

    module _ (q : many_test t.shape t.subsets ≡ true) where
      pub good_subsets : SubsetsOk t.shape t.subsets
      good_subsets = record { shaped = shape_ok t.shape p; many = many_ok t.shape t.subsets q }

      pub not_asked : asked ≡ false → refuses 3 ≡ told
      not_asked e = sym (answered {l = lists_test t} {o = once} p q refl refl ∙ ap (checked true true (lists_test t) once) e)

      module _ (e : asked ≡ true) where
        by : {l o : Bool} → lists_test t ≡ l → once ≡ o → told ≡ checked true true l o true
        by {l} {o} r u = answered p q r u ∙ ap (checked true true l o) e

        pub bad_lists : lists_test t ≡ false → refuses 4 ≡ told
        bad_lists r = sym (by {o = once} r refl)

        module _ (r : lists_test t ≡ true) where
          pub not_covered : once ≡ false → refuses 12 ≡ told
          not_covered u = sym (by r u)

          pub all_read : once ≡ true → {a : Answer ℕ} → a ≡ map_answer (bytes_at t.moved) read → a ≡ told
          all_read u f = f ∙ sym (by r u)
