-- Lengths, offsets, values: the three steps of a ragged merge one after another.
-- Assumes nothing.
use mathlib.Core.Path.{◌≡◌, sym, ap, ap₂, ◌∙◌, subst}
use Prim.Native.Nat.{ℕ, ◌+◌, ◌<◌, ◌≤◌}
use native.Mathlib.Omega.{arith}
use mathlib.Core.List.{List, ◌∷◌, ◌++◌, append_assoc}
use lib.ListN.{length, take, drop, length-append}
use lib.Seq.{length-take-le, take_at, take_all, drop_at}
use Rattle.array.specs.Limits.{most_bytes}
use Rattle.array.specs.Lists.{All}
use Rattle.array.specs.Shape.{volume}
use Rattle.array.specs.Subset.{Subset, cells_of_all, SubsetOk}
use Rattle.array.specs.Places.{fixed_at, offset_at, sum, sums, steps_at}
use Rattle.array.proofs.SubsetLaws.{all_below}
use Rattle.array.proofs.Places.{length-sums}
use Rattle.chunks.specs.Gather.{lookup, put_back}
use Rattle.merge_stores.specs.Ragged.{step_parts, offsets_merged, RaggedMergeAsked, RaggedAllAsked}
use Rattle.merge_stores.specs.Scatter.{scatter, places}
use Rattle.merge_stores.proofs.Closing.{sum-put_back}
use Rattle.merge_stores.proofs.Levels.{level_block, length_all}
use Rattle.merge_stores.proofs.RaggedMerge.{many_from, offset_is, steps_merged, rises_merged}
use Rattle.merge_stores.proofs.RaggedTies.{length_steps, chunks_agree}
use Rattle.merge_stores.proofs.Scattering.{length-scatter}

module _ {sh : List ℕ} {bs : List Subset} {dv d values src : List ℕ} {n : ℕ} (ok : All (SubsetOk sh) bs) (q : RaggedMergeAsked sh bs dv d values src n) where
  abbrev xs : List ℕ
  xs = put_back 0 (volume sh) (cells_of_all sh bs) (step_parts bs src)

  as_many : length (cells_of_all sh bs) ≡ length (step_parts bs src)
  as_many = length_all sh bs ok ∙ sym (length_steps bs src)

  long_xs : length xs ≡ n
  long_xs = many_from (λ k. lookup 0 k (cells_of_all sh bs) (step_parts bs src)) 0 (volume sh) ∙ sym q.counted

  module _ {o : List ℕ} (p : o ≡ scatter d (places (fixed_at 1 1) (cells_of_all sh bs)) (step_parts bs src)) where
    is : o ≡ take 1 d ++ xs ++ drop (1 + volume sh) d
    is = p ∙ level_block 1 (volume sh) d (cells_of_all sh bs) (step_parts bs src) (omega (arith, q.room, q.counted)) as_many (all_below sh bs ok) q.once

    one : length (take 1 d) ≡ 1
    one = length-take-le 1 d (omega (arith, q.room))

    lengths_are : take n (drop 1 o) ≡ xs
    lengths_are =
        ap (λ (r : List ℕ). take n (drop 1 r)) (is ∙ append_assoc (take 1 d) xs (drop (1 + volume sh) d)) ∙ ap (take n) (drop_at (take 1 d) (xs ++ drop (1 + volume sh) d) 1 one)
        ∙ take_at xs (drop (1 + volume sh) d) n long_xs

    rest_is : drop (n + 1) o ≡ drop (n + 1) d
    rest_is =
        let z : 1 + volume sh ≡ n + 1 = omega (arith, q.counted) in
        ap (drop (n + 1)) is ∙ drop_at (take 1 d ++ xs) (drop (1 + volume sh) d) (n + 1) (length-append (take 1 d) xs ∙ omega (arith, one, long_xs)) ∙ ap (λ (k : ℕ). drop k d) z

    -- the lengths sum to the value bytes
    sum_is : sum xs ≡ length values
    sum_is = sum-put_back (volume sh) (cells_of_all sh bs) (step_parts bs src) (all_below sh bs ok) q.once as_many ∙ q.summed

    pub second_asked : (n < length o) × (sum (take n (drop 1 o)) ≤ most_bytes)
    second_asked =
        (omega (arith, q.room, ap length p, length-scatter d (places (fixed_at 1 1) (cells_of_all sh bs)) (step_parts bs src)), omega (arith, ap sum lengths_are, sum_is, q.small))

    module _ {o' : List ℕ} (p' : o' ≡ (0 ∷ sums 0 (take n (drop 1 o))) ++ drop (n + 1) o) where
      pub offsets_are : o' ≡ offsets_merged sh bs src ++ drop (n + 1) d
      offsets_are = p' ∙ ap₂ (λ (x y : List ℕ). (0 ∷ sums 0 x) ++ y) lengths_are rest_is

      within : offset_at (offsets_merged sh bs src ++ drop (n + 1) d) (volume sh) ≤ length dv
      within =
          let e : volume sh ≡ length xs = omega (arith, long_xs, q.counted) in
          omega (arith, offset_is xs (drop (n + 1) d) (volume sh) (omega arith), ap sum (take_all (volume sh) xs (omega arith)), sum_is, q.enough)

      stepped : steps_at (offset_at (offsets_merged sh bs src ++ drop (n + 1) d)) (cells_of_all sh bs) ≡ step_parts bs src
      stepped = steps_merged (volume sh) (cells_of_all sh bs) (all_below sh bs ok) q.once (step_parts bs src) (drop (n + 1) d) as_many

      pub third_asked : RaggedAllAsked sh bs dv o' values src
      third_asked =
          subst (λ (r : List ℕ). RaggedAllAsked sh bs dv r values src) (sym offsets_are)
          (record {
            laid = record {
              covered = omega (arith, length-append (0 ∷ sums 0 xs) (drop (n + 1) d), length-sums 0 xs, long_xs, q.counted);
              rises = rises_merged (volume sh) (cells_of_all sh bs) (all_below sh bs ok) q.once (step_parts bs src) (drop (n + 1) d) as_many;
              room = within;
            };
            chunks = chunks_agree (offsets_merged sh bs src ++ drop (n + 1) d) sh bs ok src q.lengths_fit stepped;
            enough = omega (arith, ap sum stepped, q.summed);
          })
