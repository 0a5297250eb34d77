-- Content and cells: what is laid out keeps the array's rules and is taken apart again into the same cells.
-- Assumes nothing.
use mathlib.Core.Path.{◌≡◌, refl, sym, ap, ◌∙◌, subst}
use Prim.Native.Nat.{ℕ, zero, suc, ◌*◌, ◌≤◌}
use native.Mathlib.Nat.{zero-mul, suc-mul, zero-add, le_trans, le_of_eq}
use native.Mathlib.Omega.{arith}
use mathlib.Core.List.{List, [], ◌∷◌, map}
use lib.ListN.{length, take, drop, length-append, length-map, length-drop}
use lib.Seq.{take_at, drop_at, length-take-le}
use Rattle.array.specs.Limits.{most_bytes}
use Rattle.array.specs.Lists.{joined, pieces, All}
use Rattle.array.specs.Kind.{Kind, Form, fixed, ragged}
use Rattle.array.specs.Offsets.{last, Rising, slices}
use Rattle.array.specs.Cells.{Value, Cell, Strict, mask_of, leaf, inners}
use Rattle.array.specs.Content.{Content, masks_of, leaves, layout, pair_up, attach, values_in, cells_of, ValuesOk, ContentOk, ArrayOk}
use Rattle.array.proofs.Lists.{All-of, All-map, All-append, All-image, All-take, All-drop, length-joined, pieces-joined, length-pieces, sized-pieces, map-map, map_id}
use Rattle.array.proofs.Offsets.{length-ends, rising_ends, last-ends, slices_offsets, length-slices_from, total_slices_from}
use Rattle.array.proofs.RestLaws.{StrictCell}
use Rattle.array.proofs.Sums.{sum_of, length-joined-map}
use Rattle.array.proofs.Sizes.{OfSize, SizedAs}

-- contents are equal by their parts
pub content_path : {a a' b b' c c' : List ℕ} → a ≡ a' → b ≡ b' → c ≡ c'
    → ◌≡◌ {A = Content} (record { masks = a; values = b; offsets = c }) (record { masks = a'; values = b'; offsets = c' })
content_path p q r = λ i. record { masks = p i; values = q i; offsets = r i }

-- ---- from cells to content and back

pair_up_lem : {A : Type 0} (cs : List (ℕ × A)) → pair_up (mask_of cs) (inners cs) ≡ cs
pair_up_lem [] = refl
pair_up_lem {A} (c ∷ cs) = ap (λ (r : List (ℕ × A)). c ∷ r) (pair_up_lem cs)

pub mask_map : {A : Type 0} (cs : List (ℕ × A)) → mask_of cs ≡ map (λ c. c.0) cs
mask_map [] = refl
mask_map (c ∷ cs) = ap (λ (r : List ℕ). c.0 ∷ r) (mask_map cs)

pub length-mask_of : {A : Type 0} (cs : List (ℕ × A)) → length (mask_of cs) ≡ length cs
length-mask_of cs = ap length (mask_map cs) ∙ length-map cs (λ c. c.0)

pub length-masks_of : (d : ℕ) (cs : List (Cell d)) → length (masks_of d cs) ≡ d * length cs
length-masks_of zero cs = sym (zero-mul (length cs))
length-masks_of (suc d) cs =
    omega (
      arith,
      length-append (mask_of cs) (masks_of d (inners cs)),
      length-mask_of cs,
      length-masks_of d (inners cs) ∙ ap (λ (n : ℕ). d * n) (length-map cs (λ c. c.1)),
      suc-mul d (length cs),
    )

attach_masks : (d n : ℕ) (cs : List (Cell d)) → length cs ≡ n → attach d n (masks_of d cs) (leaves d cs) ≡ cs
attach_masks zero n cs e = map_id cs
attach_masks (suc d) n cs e =
    let lm : length (mask_of cs) ≡ n = length-mask_of cs ∙ e in
    let ps : List ℕ = masks_of d (inners cs) in
    rw (take_at (mask_of cs) ps n lm, drop_at (mask_of cs) ps n lm)
    (ap (pair_up (mask_of cs)) (ap (attach d n ps) (sym (map-map (λ (c : Cell (suc d)). c.1) (leaf d) cs)) ∙ attach_masks d n (inners cs) (length-map cs (λ c. c.1) ∙ e)) ∙ pair_up_lem cs)

values_layout : (f : Form) (n d : ℕ) (cs : List (Cell d)) → length cs ≡ n → SizedAs f (leaves d cs) → values_in f n (layout f d cs) ≡ leaves d cs
values_layout (fixed k o) n d cs e p = ap (λ (m : ℕ). pieces k m (joined (leaves d cs))) (sym e ∙ sym (length-map cs (leaf d))) ∙ pieces-joined k (leaves d cs) p
values_layout (ragged w q) n d cs e p = slices_offsets (leaves d cs)

pub cells_layout : (k : Kind) (n : ℕ) (cs : List (Cell k.depth)) → length cs ≡ n → SizedAs k.form (leaves k.depth cs)
    → cells_of k n (layout k.form k.depth cs) ≡ cs
cells_layout k n cs e p =
    ap (attach k.depth n (masks_of k.depth cs)) (values_layout k.form n k.depth cs e p) ∙ attach_masks k.depth n cs e

pub layout_values_ok : (f : Form) (n d : ℕ) (cs : List (Cell d)) → length cs ≡ n → SizedAs f (leaves d cs) → ValuesOk f n (layout f d cs)
layout_values_ok (fixed k o) n d cs e p = (length-joined k (leaves d cs) p ∙ ap (λ (m : ℕ). m * k) (length-map cs (leaf d) ∙ e), refl)
layout_values_ok (ragged w q) n d cs e p =
    (ap suc (length-ends 0 (leaves d cs) ∙ length-map cs (leaf d) ∙ e), (refl, rising_ends 0 (leaves d cs)), last-ends 0 (leaves d cs) ∙ zero-add (length (joined (leaves d cs))))

pub strict_mask : {A : Type 0} (P : A → Type 0) (cs : List (ℕ × A)) → All (λ c. Strict c.0 × P c.1) cs → All Strict (mask_of cs)
strict_mask P [] p = tt
strict_mask P (c ∷ cs) p = (p.0.0, strict_mask P cs p.1)

pub strict_masks : (d : ℕ) (cs : List (Cell d)) → All (StrictCell d) cs → All Strict (masks_of d cs)
strict_masks zero cs p = tt
strict_masks (suc d) cs p =
    All-append Strict (mask_of cs) (masks_of d (inners cs)) (strict_mask (StrictCell d) cs p)
    (strict_masks d (inners cs) (All-image (StrictCell d) (λ c. c.1) cs (All-map (StrictCell (suc d)) (λ c. StrictCell d c.1) (λ c q. q.1) cs p)))

layout_ok : (k : Kind) (n : ℕ) (cs : List (Cell k.depth)) → length cs ≡ n → SizedAs k.form (leaves k.depth cs)
    → ContentOk k n (layout k.form k.depth cs)
layout_ok k n cs e p = record {
  masks_fit = length-masks_of k.depth cs ∙ ap (λ (m : ℕ). k.depth * m) e;
  values_fit = layout_values_ok k.form n k.depth cs e p;
}

-- ---- the cells of valid content

length-pair_up : {A : Type 0} (n : ℕ) (ms : List ℕ) (xs : List A) → length ms ≡ n → length xs ≡ n → length (pair_up ms xs) ≡ n
length-pair_up n [] xs e f = e
length-pair_up n (m ∷ ms) [] e f = f
length-pair_up zero (m ∷ ms) (x ∷ xs) e f = absurd (omega arith)
length-pair_up (suc n) (m ∷ ms) (x ∷ xs) e f = ap suc (length-pair_up n ms xs (omega arith) (omega arith))

pub inners-pair_up : {A : Type 0} (ms : List ℕ) (xs : List A) → length ms ≡ length xs → inners (pair_up ms xs) ≡ xs
inners-pair_up [] [] e = refl
inners-pair_up [] (x ∷ xs) e = absurd (omega arith)
inners-pair_up (m ∷ ms) [] e = absurd (omega arith)
inners-pair_up {A} (m ∷ ms) (x ∷ xs) e = ap (λ (r : List A). x ∷ r) (inners-pair_up ms xs (omega arith))

module _ (n : ℕ) (vs : List Value) (ev : length vs ≡ n) where
  first_plane : (d : ℕ) (ps : List ℕ) → length ps ≡ suc d * n → length (take n ps) ≡ n
  first_plane d ps e = length-take-le n ps (omega (arith, suc-mul d n))

  later_planes : (d : ℕ) (ps : List ℕ) → length ps ≡ suc d * n → length (drop n ps) ≡ d * n
  later_planes d ps e = omega (arith, suc-mul d n, length-drop n ps)

  pub length-attach : (d : ℕ) (ps : List ℕ) → length ps ≡ d * n → length (attach d n ps vs) ≡ n
  length-attach zero ps e = ev
  length-attach (suc d) ps e = length-pair_up n (take n ps) (attach d n (drop n ps) vs) (first_plane d ps e) (length-attach d (drop n ps) (later_planes d ps e))

  pub leaves-attach : (d : ℕ) (ps : List ℕ) → length ps ≡ d * n → leaves d (attach d n ps vs) ≡ vs
  leaves-attach zero ps e = map_id vs
  leaves-attach (suc d) ps e =
      let xs : List (Cell d) = attach d n (drop n ps) vs in
      let same : length (take n ps) ≡ length xs = first_plane d ps e ∙ sym (length-attach d (drop n ps) (later_planes d ps e)) in
      sym (map-map (λ (c : Cell (suc d)). c.1) (leaf d) (pair_up (take n ps) xs))
      ∙ ap (leaves d) (inners-pair_up (take n ps) xs same) ∙ leaves-attach d (drop n ps) (later_planes d ps e)

pub values_length_lem : (f : Form) (n : ℕ) (c : Content) → ValuesOk f n c → length (values_in f n c) ≡ n
values_length_lem (fixed k o) n c p = length-pieces k n c.values
values_length_lem (ragged w q) n c p = go c.offsets p.0
  where
    go : (os : List ℕ) → length os ≡ suc n → length (slices os c.values) ≡ n
    go [] e = absurd (omega arith)
    go (a ∷ bs) e = length-slices_from a bs c.values ∙ omega arith

pub values_sized : (f : Form) (n : ℕ) (c : Content) → ValuesOk f n c → SizedAs f (values_in f n c)
values_sized (fixed k o) n c p = sized-pieces k n c.values p.0
values_sized (ragged w q) n c p = All-of (OfSize (ragged w q)) (λ v. tt) (slices c.offsets c.values)

pub values_total : (f : Form) (n : ℕ) (c : Content) → ValuesOk f n c → length (joined (values_in f n c)) ≤ length c.values
values_total (fixed k o) n c p =
    le_of_eq (length-joined k (pieces k n c.values) (sized-pieces k n c.values p.0) ∙ ap (λ (m : ℕ). m * k) (length-pieces k n c.values) ∙ sym p.0)
values_total (ragged w q) n c p = go c.offsets p.1 p.2
  where
    go : (os : List ℕ) → Rising os → last os ≡ length c.values → length (joined (slices os c.values)) ≤ length c.values
    go [] r e = omega arith
    go (a ∷ bs) r e = omega (arith, total_slices_from a bs c.values r.1)

-- the values of valid content have the form's size
pub cells_sized : (k : Kind) (n : ℕ) (c : Content) → ContentOk k n c → SizedAs k.form (leaves k.depth (cells_of k n c))
cells_sized k n c ok =
    let vs : List Value = values_in k.form n c in
    subst (SizedAs k.form) (sym (leaves-attach n vs (values_length_lem k.form n c ok.values_fit) k.depth c.masks ok.masks_fit))
    (values_sized k.form n c ok.values_fit)

strict_pair_up : {A : Type 0} (P : A → Type 0) (ms : List ℕ) (xs : List A) → All Strict ms → All P xs → All (λ c. Strict c.0 × P c.1) (pair_up ms xs)
strict_pair_up P [] xs p q = tt
strict_pair_up P (m ∷ ms) [] p q = tt
strict_pair_up P (m ∷ ms) (x ∷ xs) p q = ((p.0, q.0), strict_pair_up P ms xs p.1 q.1)

strict_attach : (d n : ℕ) (ps : List ℕ) (vs : List Value) → All Strict ps → All (StrictCell d) (attach d n ps vs)
strict_attach zero n ps vs p = All-of (StrictCell zero) (λ v. tt) vs
strict_attach (suc d) n ps vs p =
    strict_pair_up (StrictCell d) (take n ps) (attach d n (drop n ps) vs) (All-take Strict n ps p) (strict_attach d n (drop n ps) vs (All-drop Strict n ps p))

-- ---- the values of a list of cells

pub bytes_sum : (d : ℕ) (cs : List (Cell d)) → length (joined (leaves d cs)) ≡ sum_of (λ c. length (leaf d c)) cs
bytes_sum d cs = length-joined-map (leaf d) cs

pub All-leaves : (P : Value → Type 0) (d : ℕ) (cs : List (Cell d)) → All P (leaves d cs) → All (λ c. P (leaf d c)) cs
All-leaves P d [] p = tt
All-leaves P d (c ∷ cs) p = (p.0, All-leaves P d cs p.1)

-- what the laws ask of a list of cells
pub record Good (k : Kind) (n : ℕ) (cs : List (Cell k.depth)) : Type 0 where
  pub counted : length cs ≡ n
  pub sized : SizedAs k.form (leaves k.depth cs)
  pub small : length (joined (leaves k.depth cs)) ≤ most_bytes
  pub strict : All (StrictCell k.depth) cs

pub good_cells : (k : Kind) (n : ℕ) (c : Content) → ArrayOk k n c → length c.values ≤ most_bytes → Good k n (cells_of k n c)
good_cells k n c array h =
    let ok : ContentOk k n c = array.fits in
    let vs : List Value = values_in k.form n c in
    let ev : length vs ≡ n = values_length_lem k.form n c ok.values_fit in
    let el : leaves k.depth (cells_of k n c) ≡ vs = leaves-attach n vs ev k.depth c.masks ok.masks_fit in
    record {
      counted = length-attach n vs ev k.depth c.masks ok.masks_fit;
      sized = cells_sized k n c ok;
      small = subst (λ (us : List Value). length (joined us) ≤ most_bytes) (sym el) (le_trans (values_total k.form n c ok.values_fit) h);
      strict = strict_attach k.depth n c.masks vs array.strict;
    }

-- laid out, they are an array's content
pub good_layout : (k : Kind) (n : ℕ) (cs : List (Cell k.depth)) → Good k n cs → ArrayOk k n (layout k.form k.depth cs)
good_layout k n cs g = record { fits = layout_ok k n cs g.counted g.sized; strict = strict_masks k.depth cs g.strict }
