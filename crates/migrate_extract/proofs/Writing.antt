-- Lengths, offsets, bytes: the stores of a cut one after another are the cut laid end to end.
-- Assumes nothing.
use mathlib.Core.Path.{◌≡◌, sym, ap, ap₂, ◌∙◌, subst}
use Prim.Native.Nat.{ℕ, suc, ◌+◌, ◌<◌, ◌≤◌}
use native.Mathlib.Omega.{arith}
use mathlib.Core.List.{List, [], ◌∷◌, ◌++◌, map, append_assoc}
use lib.ListN.{length, take, drop, length-append, length-map}
use lib.Seq.{length-take-le, take_at, take_all, drop_at}
use borrow.Author.Tests.{le-leb, lt-leb}
use Rattle.array.specs.Answer.{gives, refuses, Outcome}
use Rattle.array.specs.Limits.{most_bytes}
use Rattle.array.specs.Lists.{joined, All}
use Rattle.array.specs.Cells.{Value}
use Rattle.array.specs.Content.{RaggedContent}
use Rattle.array.specs.Offsets.{offsets_of}
use Rattle.array.specs.Outcome.{content_ragged}
use Rattle.array.specs.Buffers.{over, ragged_lengths_of, ragged_outcome}
use Rattle.array.specs.declared.answer.RaggedLengths.{RaggedLengths}
use Rattle.array.specs.Places.{fixed_at, offset_at, step_at, steps_at, Rises, sum, sums}
use Rattle.array.proofs.Places.{below, length-sums}
use Rattle.chunks.specs.Gather.{lookup, put_back, Once}
use Rattle.decode_interleaved.specs.Walk.{total_of, found_answer}
use Rattle.merge_stores.specs.Scatter.{scatter, places}
use Rattle.merge_stores.proofs.Blocks.{length-joined}
use Rattle.merge_stores.proofs.Closing.{sum-put_back}
use Rattle.merge_stores.proofs.Levels.{put_back-map, level_block}
use Rattle.merge_stores.proofs.RaggedMerge.{offsets_merged_lem, offset_is, many_from, steps_merged, rises_merged, ragged_block}
use Rattle.migrate_extract.specs.Asked.{Each}
use Rattle.migrate_extract.specs.Chunks.{Placed}

-- places whose steps are the values' lengths
each_placed : (begins : List ℕ) (n r : ℕ) → Rises (offset_at begins) n → offset_at begins n ≤ r → (ps : List ℕ) (ws : List Value) → All (λ p. p < n) ps
    → steps_at (offset_at begins) ps ≡ map length ws → Each (Placed begins r) ps ws
each_placed begins n r u h [] ws a e = tt
each_placed begins n r u h (p ∷ ps) [] a e = tt
each_placed begins n r u h (p ∷ ps) (v ∷ ws) a e =
    let here : step_at (offset_at begins) p ≡ length v = cc in
    let later : steps_at (offset_at begins) ps ≡ map length ws = cc in
    (record { long = here; room = omega (arith, here, u p a.0, below u (suc p) (omega (arith, a.0)), h) }, each_placed begins n r u h ps ws a.1 later)

module _ (n : ℕ) (ps : List ℕ) (ws : List Value) (a : All (λ p. p < n) ps) (once : Once n ps) (e : length ps ≡ length ws) where
  abbrev cut : List Value
  cut = put_back [] n ps ws

  abbrev xs : List ℕ
  xs = put_back 0 n ps (map length ws)

  el : length ps ≡ length (map length ws)
  el = e ∙ sym (length-map ws length)

  long_xs : length xs ≡ n
  long_xs = many_from (λ k. lookup 0 k ps (map length ws)) 0 n

  sum_is : sum xs ≡ total_of ws
  sum_is = sum-put_back n ps (map length ws) a once el ∙ sym (length-joined ws)

  -- the cut has as many bytes as the cells that are asked for
  pub cut_total : total_of cut ≡ total_of ws
  cut_total = length-joined cut ∙ ap sum (sym (put_back-map {A = Value} length [] n ps ws)) ∙ sum_is

  offsets_are : offsets_of cut ≡ 0 ∷ sums 0 xs
  offsets_are = offsets_merged_lem n ps ws

  pub cut_offsets : length (offsets_of cut) ≡ n + 1
  cut_offsets = omega (arith, ap length offsets_are, length-sums 0 xs, long_xs)

  module _ (v d : List ℕ) (hd : n < length d) (hv : total_of ws ≤ length v) {o : List ℕ} (p : o ≡ scatter d (places (fixed_at 1 1) ps) (map length ws)) where
    is : o ≡ take 1 d ++ xs ++ drop (1 + n) d
    is = p ∙ level_block 1 n d ps (map length ws) (omega arith) el a once

    one : length (take 1 d) ≡ 1
    one = length-take-le 1 d (omega arith)

    lengths_are : take n (drop 1 o) ≡ xs
    lengths_are =
        ap (λ (r : List ℕ). take n (drop 1 r)) (is ∙ append_assoc (take 1 d) xs (drop (1 + n) d)) ∙ ap (take n) (drop_at (take 1 d) (xs ++ drop (1 + n) d) 1 one)
        ∙ take_at xs (drop (1 + n) d) n long_xs

    rest_is : drop (n + 1) o ≡ drop (n + 1) d
    rest_is =
        let z : 1 + n ≡ n + 1 = omega arith in
        ap (drop (n + 1)) is ∙ drop_at (take 1 d ++ xs) (drop (1 + n) d) (n + 1) (length-append (take 1 d) xs ∙ omega (arith, one, long_xs)) ∙ ap (λ (k : ℕ). drop k d) z

    pub summing : total_of ws ≤ most_bytes → sum (take n (drop 1 o)) ≤ most_bytes
    summing s = omega (arith, ap sum lengths_are, sum_is)

    module _ {o' : List ℕ} (p' : o' ≡ (0 ∷ sums 0 (take n (drop 1 o))) ++ drop (n + 1) o) where
      summed : o' ≡ (0 ∷ sums 0 xs) ++ drop (n + 1) d
      summed = p' ∙ ap₂ (λ (x y : List ℕ). (0 ∷ sums 0 x) ++ y) lengths_are rest_is

      last_is : offset_at ((0 ∷ sums 0 xs) ++ drop (n + 1) d) n ≤ length v
      last_is = omega (arith, offset_is xs (drop (n + 1) d) n (omega (arith, long_xs)), ap sum (take_all n xs (omega (arith, long_xs))), sum_is)

      pub placing : Each (Placed o' (length v)) ps ws
      placing =
          subst (λ (b : List ℕ). Each (Placed b (length v)) ps ws) (sym summed)
          (each_placed ((0 ∷ sums 0 xs) ++ drop (n + 1) d) n (length v) (rises_merged n ps a once (map length ws) (drop (n + 1) d) el) last_is ps ws a
          (steps_merged n ps a once (map length ws) (drop (n + 1) d) el))

      offsets_laid : o' ≡ over (offsets_of cut) d
      offsets_laid = summed ∙ ap₂ (λ (x : List ℕ) (k : ℕ). x ++ drop k d) (sym offsets_are) (sym cut_offsets)

      module _ {v' : List ℕ} (p'' : v' ≡ scatter v (places (offset_at o') ps) (joined ws)) where
        values_laid : v' ≡ over (joined cut) v
        values_laid =
            p'' ∙ ap (λ (b : List ℕ). scatter v (places (offset_at b) ps) (joined ws)) summed
            ∙ ragged_block n ps a once ws (drop (n + 1) d) v e (omega (arith, sum_is))
            ∙ ap (λ (k : ℕ). joined cut ++ drop k v) (sum_is ∙ sym cut_total)

        pub cut_written : {total : ℕ} → total ≡ total_of ws
            → ◌≡◌ {A = Outcome RaggedLengths RaggedContent} (record { answer = gives (record { values = total; offsets = n + 1 }); buffers = content_ragged v' o' })
            (ragged_outcome (found_answer cut (ragged_lengths_of (content_ragged v d))) (content_ragged v d))
        cut_written {total} t =
            rw (
              le-leb (total_of cut) (length v) (omega (arith, cut_total)),
              le-leb (length (offsets_of cut)) (length d) (omega (arith, cut_offsets)),
              values_laid,
              offsets_laid,
              cut_total,
              cut_offsets,
              t,
            )

  -- ---- 6

  module _ (v d : List ℕ) where
    pub values_short : length v < total_of ws
        → record { answer = refuses 6; buffers = content_ragged v d } ≡ ragged_outcome (found_answer cut (ragged_lengths_of (content_ragged v d))) (content_ragged v d)
    values_short h = rw (lt-leb (total_of cut) (length v) (omega (arith, cut_total)))

    pub offsets_short : total_of ws ≤ length v → length d < n + 1
        → record { answer = refuses 6; buffers = content_ragged v d } ≡ ragged_outcome (found_answer cut (ragged_lengths_of (content_ragged v d))) (content_ragged v d)
    offsets_short g h = rw (le-leb (total_of cut) (length v) (omega (arith, cut_total)), lt-leb (length (offsets_of cut)) (length d) (omega (arith, cut_offsets)))
