-- What a guest sees of an array is what is laid out cell by cell (specs/Seen): which cells are shown, in the array and in the innermost plane as it is written.
-- Assumes nothing.
use mathlib.Core.Path.{◌≡◌, refl, sym, ap, ap₂, ◌∙◌}
use mathlib.Core.Bool.{Bool, true, false, ◌&&◌}
use mathlib.Core.List.{List, [], ◌++◌, map, append_assoc}
use Prim.Native.Nat.{ℕ, zero, suc, ◌+◌, ◌-◌, ◌*◌, ◌<◌}
use native.Mathlib.Nat.{zero-mul, suc-mul, add-zero}
use native.Mathlib.Omega.{arith}
use lib.ListN.{length, get_or, take, drop}
use lib.Seq.{take_at, drop_at, drop-drop}
use Rattle.array.specs.Lists.{from, pick}
use Rattle.array.specs.Kind.{Kind, Form, fixed, ragged, null_of}
use Rattle.array.specs.Cells.{set_test}
use Rattle.array.specs.Content.{Content, ContentOk}
use Rattle.array.specs.Buffers.{over}
use Rattle.array.specs.Places.{mask_at, value_in, planes_by, shown_by, shown_at, laid_by}
use Rattle.array.proofs.Lists.{entry}
use Rattle.array.proofs.Numbered.{rest_laid}
use Rattle.valid.proofs.CheckLaws.{and_assoc}
use Rattle.rest_masks.specs.Rested.{rest_mask, rest_planes}
use Rattle.rest_masks.proofs.Numbering.{length_numbered}
use Rattle.rights.specs.Rights.{permits, cleared, hidden_by, guest_form}
use Rattle.rights.proofs.Cleared.{outermost_at, inner_at, hidden_fits}
use Rattle.guest_read.specs.Seen.{seen_at, seen_content}

-- ---- the array

pub seen_is : {k : Kind} {n : ℕ} {c : Content} (rights : List ℕ) → ContentOk k n c → seen_content k.form k.depth n rights c ≡ guest_form k n rights c
seen_is {k} {n} {c} rights ok = same k.form ∙ sym (rest_laid (hidden_fits rights ok))
  where
    ms : List ℕ
    ms = cleared rights c.masks

    same : (f : Form) → seen_content f k.depth n rights c
        ≡ laid_by f k.depth (rest_mask n ms) (λ j. pick (shown_at n ms k.depth j) (value_in f (hidden_by rights c) j) (null_of f)) (from 0 n)
    same (fixed s o) = refl
    same (ragged w p) = refl

-- a cell is shown under the cleared masks where the plane shows it and so do all its own
cleared_shown : (m m' : ℕ → ℕ) (b : Bool) (l : ℕ) → m' 0 ≡ pick b (m 0) 0 → ((i : ℕ) → m' (suc i) ≡ m (suc i)) → shown_by m' (suc l) ≡ b && shown_by m (suc l)
cleared_shown m m' b zero e f = ap set_test e ∙ one b
  where
    one : (b : Bool) → set_test (pick b (m 0) 0) ≡ b && set_test (m 0)
    one true = refl
    one false = refl
cleared_shown m m' b (suc l) e f =
    ap₂ (λ (x y : Bool). x && y) (cleared_shown m m' b l e f) (ap set_test (f l)) ∙ sym (and_assoc b (shown_by m (suc l)) (set_test (m (suc l))))

module _ {n : ℕ} (rights ms : List ℕ) {d : ℕ} (some : 0 < d) (counted : length rights ≡ n) where
  pub seen_shown : (j : ℕ) → j < n → shown_at n (cleared rights ms) d j ≡ seen_at n rights ms d j
  seen_shown j h =
      let deep : d ≡ suc (d - 1) = omega arith in
      ap (λ (l : ℕ). shown_at n (cleared rights ms) l j) deep
      ∙ cleared_shown (λ l. mask_at n ms l j) (λ l. mask_at n (cleared rights ms) l j) (permits rights j) (d - 1)
      (outermost_at n rights ms counted j h) (λ i. inner_at n rights ms counted i j)
      ∙ ap (λ (l : ℕ). seen_at n rights ms l j) (sym deep)

-- ---- the innermost plane, as it is written

-- of e + 1 planes the last
last_plane_lem : (m : ℕ → ℕ → ℕ) (n e l : ℕ) (r : List ℕ) → take n (drop (e * n) (planes_by m (suc e) l (from 0 n) ++ r)) ≡ map (m (l + e)) (from 0 n)
last_plane_lem m n zero l r =
    ap₂ (λ (k : ℕ) (xs : List ℕ). take n (drop k xs)) (zero-mul n) (append_assoc (map (m l) (from 0 n)) [] r)
    ∙ take_at (map (m l) (from 0 n)) r n (length_numbered (m l) n) ∙ ap (λ (k : ℕ). map (m k) (from 0 n)) (sym (add-zero l))
last_plane_lem m n (suc e) l r =
    let first : List ℕ = map (m l) (from 0 n) in
    let others : List ℕ = planes_by m (suc e) (suc l) (from 0 n) in
    let q : suc l + e ≡ l + suc e = omega arith in
    let later : suc e * n ≡ n + e * n = omega (arith, suc-mul e n) in
    ap₂ (λ (k : ℕ) (xs : List ℕ). take n (drop k xs)) later (append_assoc first others r)
    ∙ ap (take n) (sym (drop-drop (e * n) n (first ++ (others ++ r))) ∙ ap (drop (e * n)) (drop_at first (others ++ r) n (length_numbered (m l) n)))
    ∙ last_plane_lem m n e (suc l) r ∙ ap (λ (k : ℕ). map (m k) (from 0 n)) q

-- as it is cut from the output
abbrev pub last_plane : ℕ → ℕ → List ℕ → List ℕ
last_plane d n out = take (d * n - (d * n - n)) (drop (d * n - n) out)

module _ (n : ℕ) (ms : List ℕ) {d : ℕ} (some : 0 < d) (out : List ℕ) {out' : List ℕ} (written : out' ≡ over (rest_planes n ms d) out) where
  innermost : last_plane d n out' ≡ map (rest_mask n ms (d - 1)) (from 0 n)
  innermost =
      let deep : d ≡ suc (d - 1) = omega arith in
      let all : d * n ≡ (d - 1) * n + n = ap (λ (l : ℕ). l * n) deep ∙ suc-mul (d - 1) n in
      let before : d * n - n ≡ (d - 1) * n = omega arith in
      let here : d * n - (d * n - n) ≡ n = omega arith in
      let at : 0 + (d - 1) ≡ d - 1 = omega arith in
      ap₂ (λ (k l : ℕ). take k (drop l out')) here before
      ∙ ap (λ (xs : List ℕ). take n (drop ((d - 1) * n) xs)) (written ∙ ap (λ (l : ℕ). over (rest_planes n ms l) out) deep)
      ∙ last_plane_lem (rest_mask n ms) n (d - 1) 0 _ ∙ ap (λ (l : ℕ). map (rest_mask n ms l) (from 0 n)) at

  pub plane_long : length (last_plane d n out') ≡ n
  plane_long = ap length innermost ∙ length_numbered (rest_mask n ms (d - 1)) n

  -- it shows what is shown at all
  pub plane_shows : (j : ℕ) → j < n → set_test (get_or (last_plane d n out') j 0) ≡ shown_at n ms d j
  plane_shows j h =
      let deep : suc (d - 1) ≡ d = omega arith in
      ap set_test (entry (rest_mask n ms (d - 1)) n innermost 0 j h) ∙ set_below (shown_at n ms (d - 1) j) (mask_at n ms (d - 1) j)
      ∙ ap (λ (l : ℕ). shown_at n ms l j) deep
    where
      set_below : (b : Bool) (x : ℕ) → set_test (pick b x 0) ≡ b && set_test x
      set_below true x = refl
      set_below false x = refl

  pub plane_live : (j : ℕ) → j < n → shown_at n (last_plane d n out') 1 j ≡ shown_at n ms d j
  plane_live j h =
      let first : 0 * n + j ≡ j = omega (arith, zero-mul n) in
      ap (λ (i : ℕ). set_test (get_or (last_plane d n out') i 0)) first ∙ plane_shows j h
