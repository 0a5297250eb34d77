-- What the loops over draws keep: levels and value bytes. And a cell drawn in the order of the code is the cell of the definition.
-- Assumes nothing.
use mathlib.Core.Path.{◌≡◌, refl, sym, ap, ap₂, ◌∙◌, subst}
use Prim.Native.Nat.{ℕ, zero, suc, ◌+◌, ◌-◌, ◌/◌, ◌%◌, ◌≤◌, ◌<◌}
use native.Mathlib.Nat.{zero-add, suc-add}
use native.Mathlib.Numerals.{unary_clauses}
use native.Mathlib.Omega.{arith}
use mathlib.Core.List.{List, [], ◌∷◌, ◌++◌}
use lib.ListN.{length, set, replicate}
use Rattle.array.specs.Kind.{Form, null_of}
use Rattle.array.specs.Cells.{Value, Cell, Mark, is_null, is_set, is_other, mark_of, blank, leaf}
use Rattle.array.proofs.Laying.{Laying, laying_begins, laying_is, laying_ends, laying_store, laying_part}
use Rattle.array.specs.Buffers.{over_at}
use Rattle.load.specs.Generator.{Drew, draw, draw_bytes}
use Rattle.load.specs.Load.{length_by, level_by, draw_value, draw_cell}
use Rattle.load.proofs.Drawn.{drawn_length}
use Rattle.generate.specs.Cells.{levels_by, set_levels, set_masks, column, lengthy, length_drawn}

-- one more of n
pub next_of : {n i : ℕ} → i < n → n - i ≡ suc (n - (i + 1))
next_of h = omega arith

-- ---- levels

-- k levels above those of r
abbrev above : ℕ → Drew ℕ → Drew ℕ
above k r = record { made = k + r.made; state = r.state }

-- k levels are set, and s is the state behind them
pub record Climbing (depth s₀ s k : ℕ) : Type 0 where
  pub within : k ≤ depth
  pub is : set_levels depth s₀ ≡ above k (set_levels (depth - k) s)

module _ {depth s₀ s k : ℕ} (c : Climbing depth s₀ s k) where
  next_level : k < depth → {m : ℕ} → (draw s).made % 4 ≡ m → set_levels depth s₀ ≡ above k (levels_by m (draw s).state (set_levels (depth - (k + 1)) (draw s).state))
  unfolding set_levels
  next_level h e = c.is ∙ ap (λ (j : ℕ). above k (set_levels j s)) (next_of h) ∙ ap (λ (x : ℕ). above k (levels_by x (draw s).state (set_levels (depth - (k + 1)) (draw s).state))) e

  pub climb_null : {x : Drew ℕ} → x ≡ draw s → k < depth → x.made % 4 ≡ 0 → record { made = k; state = x.state } ≡ set_levels depth s₀
  climb_null {x} e h z = ap (λ (y : Drew ℕ). record { made = k; state = y.state }) e
      ∙ sym (next_level h (ap (λ (y : Drew ℕ). y.made % 4) (sym e) ∙ z) ∙ simp unary_clauses)

  pub climb_more : {x : Drew ℕ} → x ≡ draw s → k < depth → (x.made % 4 ≡ 0 → ⊥) → Climbing depth s₀ x.state (k + 1)
  climb_more {x} e h some = subst (λ (t : ℕ). Climbing depth s₀ t (k + 1)) (ap (λ (y : Drew ℕ). y.state) (sym e)) (go ((draw s).made % 4) refl)
    where
      go : (m : ℕ) → (draw s).made % 4 ≡ m → Climbing depth s₀ (draw s).state (k + 1)
      go zero z = absurd (some (ap (λ (y : Drew ℕ). y.made % 4) e ∙ z))
      go (suc m) z =
          let r : Drew ℕ = set_levels (depth - (k + 1)) (draw s).state in
          record { within = omega arith; is = next_level h z ∙ ap (λ (j : ℕ). record { made = j; state = r.state }) (omega arith) }

  pub climb_ends : depth ≤ k → record { made = depth; state = s } ≡ set_levels depth s₀
  unfolding set_levels
  climb_ends h =
      let none : depth - k ≡ 0 = omega arith in
      let all : depth ≡ k = omega (arith, c.within) in
      ap (λ (j : ℕ). record { made = j; state = s }) all
      ∙ sym (c.is ∙ ap (λ (j : ℕ). above k (set_levels j s)) none ∙ simp unary_clauses)

-- ---- value bytes

-- i of n bytes are drawn, and s is the state behind them
pub record Skipping (n s₀ s i : ℕ) : Type 0 where
  pub within : i ≤ n
  pub ends : (draw_bytes n s₀).state ≡ (draw_bytes (n - i) s).state

pub skip_begins : (n s : ℕ) → Skipping n s s 0
skip_begins n s = record { within = omega arith; ends = simp unary_clauses }

next_bytes : {n i : ℕ} (s : ℕ) → i < n → draw_bytes (n - i) s ≡ draw_bytes (suc (n - (i + 1))) s
next_bytes s h = ap (λ (j : ℕ). draw_bytes j s) (next_of h)

module _ {n s₀ s i : ℕ} (k : Skipping n s₀ s i) where
  pub skip_more : {x : Drew ℕ} → x ≡ draw s → i < n → Skipping n s₀ x.state (i + 1)
  unfolding draw_bytes
  skip_more e h = record {
    within = omega arith;
    ends = k.ends ∙ ap (λ (r : Drew Value). r.state) (next_bytes s h) ∙ ap (λ (y : Drew ℕ). (draw_bytes (n - (i + 1)) y.state).state) (sym e);
  }

  pub skip_ends : n ≤ i → s ≡ (draw_bytes n s₀).state
  unfolding draw_bytes
  skip_ends h =
      let none : n - i ≡ 0 = omega arith in
      sym (k.ends ∙ ap (λ (j : ℕ). (draw_bytes j s).state) none)

-- and they lie at `to` in what was d
pub record Storing (n s₀ : ℕ) (d : List ℕ) (to : ℕ) (out : List ℕ) (s i : ℕ) : Type 0 where
  pub skipped : Skipping n s₀ s i
  pub laid : Laying (draw_bytes n s₀).made d to out i (draw_bytes (n - i) s).made

pub store_begins : (n s : ℕ) (d : List ℕ) (to : ℕ) → to + n ≤ length d → Storing n s d to d s 0
store_begins n s d to h = record { skipped = skip_begins n s; laid = laying_is (laying_begins (draw_bytes n s).made d to (omega (arith, drawn_length n s))) (simp unary_clauses) }

module _ {n s₀ : ℕ} {d : List ℕ} {to : ℕ} {out : List ℕ} {s i : ℕ} (k : Storing n s₀ d to out s i) where
  pub store_more : {x : Drew ℕ} → x ≡ draw s → i < n → Storing n s₀ d to (set out (to + i) (x.made % 256)) x.state (i + 1)
  unfolding draw_bytes
  store_more {x} e h = record {
    skipped = skip_more k.skipped e h;
    laid = laying_store (draw_bytes n s₀).made d to out i (x.made % 256) (draw_bytes (n - (i + 1)) x.state).made
        (laying_is k.laid (ap (λ (r : Drew Value). r.made) (next_bytes s h) ∙ ap (λ (y : Drew ℕ). y.made % 256 ∷ (draw_bytes (n - (i + 1)) y.state).made) (sym e)));
  }

  pub store_ends : n ≤ i → out ≡ over_at to (draw_bytes n s₀).made d
  unfolding draw_bytes
  store_ends h =
      let none : n - i ≡ 0 = omega arith in
      laying_ends (draw_bytes n s₀).made d to out i (laying_is k.laid (ap (λ (j : ℕ). (draw_bytes j s).made) none))

-- a part of k bytes is drawn in one go
more_bytes : (a b s : ℕ) → draw_bytes (a + b) s ≡ record { made = (draw_bytes a s).made ++ (draw_bytes b (draw_bytes a s).state).made; state = (draw_bytes b (draw_bytes a s).state).state }
unfolding draw_bytes
more_bytes zero b s = ap (λ (j : ℕ). draw_bytes j s) (zero-add b)
more_bytes (suc a) b s =
    ap (λ (j : ℕ). draw_bytes j s) (suc-add a b)
    ∙ ap (λ (r : Drew Value). record { made = (draw s).made % 256 ∷ r.made; state = r.state }) (more_bytes a b (draw s).state)

module _ {n s₀ : ℕ} {d : List ℕ} {to : ℕ} {out : List ℕ} {s i : ℕ} (c : Storing n s₀ d to out s i) where
  left_bytes : (k : ℕ) → i + k ≤ n
      → draw_bytes (n - i) s ≡ record { made = (draw_bytes k s).made ++ (draw_bytes (n - (i + k)) (draw_bytes k s).state).made; state = (draw_bytes (n - (i + k)) (draw_bytes k s).state).state }
  left_bytes k h = let e : n - i ≡ k + (n - (i + k)) = omega arith in ap (λ (j : ℕ). draw_bytes j s) e ∙ more_bytes k (n - (i + k)) s

  pub store_part : (k : ℕ) → i + k ≤ n → {out' : List ℕ} {t : ℕ} → out' ≡ over_at (to + i) (draw_bytes k s).made out → t ≡ (draw_bytes k s).state → Storing n s₀ d to out' t (i + k)
  store_part k h {out'} {t} eo et = record {
    skipped = record {
      within = h;
      ends = c.skipped.ends ∙ ap (λ (r : Drew Value). r.state) (left_bytes k h) ∙ ap (λ (y : ℕ). (draw_bytes (n - (i + k)) y).state) (sym et);
    };
    laid = laying_part (draw_bytes n s₀).made d to out i (draw_bytes k s).made (draw_bytes (n - (i + k)) t).made
        (laying_is c.laid (ap (λ (r : Drew Value). r.made) (left_bytes k h) ∙ ap (λ (y : ℕ). (draw_bytes k s).made ++ (draw_bytes (n - (i + k)) y).made) (sym et)))
        out' eo (i + k) (let e : i + k ≡ i + length (draw_bytes k s).made = omega (arith, drawn_length k s) in e);
  }

-- the state after one draw more
last-draw : (j s : ℕ) → (draw_bytes (j + 1) s).state ≡ (draw (draw_bytes j s).state).state
unfolding draw_bytes
last-draw j s = ap (λ (r : Drew Value). r.state) (more_bytes j 1 s)

-- a byte from the state after it
module _ {n s₀ : ℕ} {d : List ℕ} {to : ℕ} {out : List ℕ} {i : ℕ} (c : Storing n s₀ d to out (draw_bytes i s₀).state i) where
  pub store_ahead : i < n → {t : ℕ} → t ≡ (draw_bytes (i + 1) s₀).state → Storing n s₀ d to (set out (to + i) (t / 65536 % 256)) (draw_bytes (i + 1) s₀).state (i + 1)
  unfolding draw
  store_ahead h {t} e =
      subst (λ (y : ℕ). Storing n s₀ d to (set out (to + i) (t / 65536 % 256)) y (i + 1)) e
      (store_more c (ap (λ (y : ℕ). record { made = y / 65536; state = y }) (e ∙ last-draw i s₀)) h)

-- ---- a cell

-- below a null nothing is set, and every mask byte is 00 or 01
abbrev pub FallsBy : Mark → List ℕ → Type 0
FallsBy is_null r = r ≡ []
FallsBy is_set r = Unit {0}
FallsBy is_other r = ⊥

abbrev pub Falls : (d : ℕ) → Cell d → Type 0
Falls zero c = Unit {0}
Falls (suc d) c = FallsBy (mark_of c.0) (set_masks d c.1) × Falls d c.1

module _ (f : Form) where
  blank_masks : (d : ℕ) → set_masks d (blank (null_of f) d) ≡ []
  blank_masks zero = refl
  blank_masks (suc d) = refl

  blank_falls : (d : ℕ) → Falls d (blank (null_of f) d)
  blank_falls zero = tt
  blank_falls (suc d) = (blank_masks d, blank_falls d)

  blank_leaf : (d : ℕ) → leaf d (blank (null_of f) d) ≡ null_of f
  blank_leaf zero = refl
  blank_leaf (suc d) = blank_leaf d

  -- a cell c whose levels are drawn as l: its mask bytes, and its value, which is drawn behind them or is a null's
  pub record Drawn (d : ℕ) (c : Drew (Cell d)) (l : Drew ℕ) : Type 0 where
    pub marked : set_masks d c.made ≡ replicate l.made 1
    pub falls : Falls d c.made
    pub if_set_lem : l.made ≡ d → (leaf d c.made ≡ (draw_value f l.state).made) × (c.state ≡ (draw_value f l.state).state)
    pub if_null : (l.made ≡ d → ⊥) → (leaf d c.made ≡ null_of f) × (c.state ≡ l.state)

  next_level_of : {d : ℕ} {c : Drew (Cell d)} {l : Drew ℕ} (m t : ℕ) → Drawn d c l → Drawn (suc d) (level_by m t (blank (null_of f) d) c) (levels_by m t l)
  next_level_of {d} zero t r = record {
    marked = refl;
    falls = (blank_masks d, blank_falls d);
    if_set_lem = λ e. absurd (omega arith);
    if_null = λ n. (blank_leaf d, refl);
  }
  next_level_of {d} (suc m) t r = record {
    marked = ap (λ (x : List ℕ). 1 ∷ x) r.marked;
    falls = (tt, r.falls);
    if_set_lem = λ e. r.if_set_lem (omega arith);
    if_null = λ n. r.if_null (λ e. n (ap suc e));
  }

  pub drawn : (d s : ℕ) → Drawn d (draw_cell f d s) (set_levels d s)
  unfolding draw_cell set_levels
  drawn zero s = record { marked = refl; falls = tt; if_set_lem = λ e. (refl, refl); if_null = λ n. absurd (n refl) }
  drawn (suc d) s = next_level_of ((draw s).made % 4) (draw s).state (drawn d (draw s).state)

-- the same, of levels that the code has drawn
pub cell_of_lem : (f : Form) (d s : ℕ) {l : Drew ℕ} → l ≡ set_levels d s → Drawn f d (draw_cell f d s) l
cell_of_lem f d s e = subst (Drawn f d (draw_cell f d s)) (sym e) (drawn f d s)

-- and their mask bytes, that are stored
pub cell_marked : (f : Form) (d s : ℕ) {l : Drew ℕ} → l ≡ set_levels d s → (n at : ℕ) (m : List ℕ) {out : List ℕ}
    → out ≡ column n at (replicate l.made 1) m → out ≡ column n at (set_masks d (draw_cell f d s).made) m
cell_marked f d s e n at m h = rw (cell_of_lem f d s e).marked h

-- ---- a ragged cell

abbrev ragged_cell : (d s : ℕ) → Drew (Cell d)
ragged_cell d s = draw_cell lengthy d s

module _ (d s : ℕ) {l : Drew ℕ} (e : l ≡ set_levels d s) where
  module _ (all : l.made ≡ d) {x : Drew ℕ} (g : x ≡ draw l.state) {b : ℕ} (eb : b ≡ length_by x.made) where
    -- b bytes of the draws behind x are the value's
    same_bytes : draw_bytes b x.state ≡ draw_bytes (length_by (draw l.state).made) (draw l.state).state
    same_bytes = ap (λ (j : ℕ). draw_bytes j x.state) eb ∙ ap (λ (y : Drew ℕ). draw_bytes (length_by y.made) y.state) g

    pub set-leaf : leaf d (ragged_cell d s).made ≡ (draw_bytes b x.state).made
    unfolding draw_value
    set-leaf = ((cell_of_lem lengthy d s e).if_set_lem all).0 ∙ ap (λ (r : Drew Value). r.made) (sym same_bytes)

    pub set-length : length (leaf d (ragged_cell d s).made) ≡ b
    set-length = ap length set-leaf ∙ drawn_length b x.state

    pub set_counted : {t : ℕ} → t ≡ (draw_bytes b x.state).state → record { made = b; state = t } ≡ length_drawn d (ragged_cell d s)
    unfolding draw_value
    set_counted {t} h =
        let after : t ≡ (ragged_cell d s).state = h ∙ ap (λ (r : Drew Value). r.state) same_bytes ∙ sym ((cell_of_lem lengthy d s e).if_set_lem all).1 in
        ap₂ (λ (a b : ℕ). record { made = a; state = b }) (sym set-length) after

  module _ (some : l.made ≡ d → ⊥) where
    pub null_leaf : leaf d (ragged_cell d s).made ≡ []
    null_leaf = ((cell_of_lem lengthy d s e).if_null some).0

    pub null_counted : record { made = 0; state = l.state } ≡ length_drawn d (ragged_cell d s)
    null_counted = ap₂ (λ (a b : ℕ). record { made = a; state = b }) (sym (ap length null_leaf)) (sym ((cell_of_lem lengthy d s e).if_null some).1)
