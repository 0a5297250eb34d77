-- Lists: a rule for every element, map, pieces laid end to end and taken apart again.
-- Assumes nothing.
use mathlib.Core.Path.{◌≡◌, refl, sym, ap, ap₂, ◌∙◌}
use Prim.Native.Nat.{ℕ, zero, suc, ◌+◌, ◌*◌, ◌≤◌, ◌<◌}
use native.Mathlib.Nat.{zero-mul, suc-mul, add_comm, add-zero, zero-add}
use native.Mathlib.Omega.{arith}
use mathlib.Core.List.{List, [], ◌∷◌, ◌++◌, map, reverse, reverse_aux, append_assoc}
use lib.ListN.{length, take, drop, get_or, length-append, length-drop, take-append-drop}
use lib.Seq.{take_at, drop_at, take-take, length-take-le}
use Rattle.array.specs.Lists.{from, joined, pieces, All}

module _ {A : Type 0} where
  -- ---- maps over a run of numbers

  pub map-from : (f g : ℕ → A) (a n : ℕ) → ((i : ℕ) → i < a + n → f i ≡ g i) → map f (from a n) ≡ map g (from a n)
  map-from f g a zero e = refl
  map-from f g a (suc n) e =
      ap₂ (λ (x : A) (r : List A). x ∷ r) (e a (omega arith)) (map-from f g (suc a) n (λ i h. e i (omega arith)))

  pub from_suc : (f : ℕ → A) (a n : ℕ) → map f (from (suc a) n) ≡ map (λ i. f (suc i)) (from a n)
  from_suc f a zero = refl
  from_suc f a (suc n) = ap (λ (r : List A). f (suc a) ∷ r) (from_suc f (suc a) n)

  -- every element in its place is the list
  pub in_place_lem : (z : A) (xs : List A) → map (λ i. get_or xs i z) (from 0 (length xs)) ≡ xs
  in_place_lem z [] = refl
  in_place_lem z (x ∷ xs) = ap (λ (r : List A). x ∷ r) (from_suc (λ i. get_or (x ∷ xs) i z) 0 (length xs) ∙ in_place_lem z xs)

  pub at_from : (z : A) (f : ℕ → A) (n a i : ℕ) → i < n → get_or (map f (from a n)) i z ≡ f (a + i)
  at_from z f zero a i h = absurd (omega arith)
  at_from z f (suc n) a zero h = ap f (sym (add-zero a))
  at_from z f (suc n) a (suc i) h = let e : suc a + i ≡ a + suc i = omega arith in at_from z f n (suc a) i (omega arith) ∙ ap f e

  -- what holds of the list holds of each entry
  pub entry : (f : ℕ → A) {l : List A} (n : ℕ) → l ≡ map f (from 0 n) → (z : A) (i : ℕ) → i < n → get_or l i z ≡ f i
  entry f n e z i h = ap (λ (xs : List A). get_or xs i z) e ∙ at_from z f n 0 i h ∙ ap f (zero-add i)

  -- a list by its elements
  pub by_number : (z : A) (f : ℕ → A) (xs : List A) {n : ℕ} → length xs ≡ n → ((i : ℕ) → i < n → get_or xs i z ≡ f i) → xs ≡ map f (from 0 n)
  by_number z f xs {n} e g =
      sym (in_place_lem z xs) ∙ ap (λ (m : ℕ). map (λ i. get_or xs i z) (from 0 m)) e ∙ map-from (λ i. get_or xs i z) f 0 n (λ i h. g i (omega arith))

  -- maps that agree below n
  pub map_below : (f g : ℕ → A) (n : ℕ) → ((i : ℕ) → i < n → f i ≡ g i) → (is : List ℕ) → All (λ i. i < n) is → map f is ≡ map g is
  map_below f g n e [] p = refl
  map_below f g n e (i ∷ is) p = ap₂ (λ (x : A) (r : List A). x ∷ r) (e i p.0) (map_below f g n e is p.1)

  -- ---- a rule for every element

  pub All-map : (P Q : A → Type 0) → ((a : A) → P a → Q a) → (xs : List A) → All P xs → All Q xs
  All-map P Q f [] p = tt
  All-map P Q f (x ∷ xs) p = (f x p.0, All-map P Q f xs p.1)

  pub All-append : (P : A → Type 0) (xs ys : List A) → All P xs → All P ys → All P (xs ++ ys)
  All-append P [] ys p q = q
  All-append P (x ∷ xs) ys p q = (p.0, All-append P xs ys p.1 q)

  pub All-get_or : (P : A → Type 0) (z : A) → P z → (xs : List A) → All P xs → (i : ℕ) → P (get_or xs i z)
  All-get_or P z q [] p i = q
  All-get_or P z q (x ∷ xs) p zero = p.0
  All-get_or P z q (x ∷ xs) p (suc i) = All-get_or P z q xs p.1 i

  pub All-at : (P : A → Type 0) (z : A) (xs : List A) → All P xs → (i : ℕ) → i < length xs → P (get_or xs i z)
  All-at P z [] p i h = absurd (omega arith)
  All-at P z (x ∷ xs) p zero h = p.0
  All-at P z (x ∷ xs) p (suc i) h = All-at P z xs p.1 i (omega arith)

  pub All-of : (P : A → Type 0) → ((a : A) → P a) → (xs : List A) → All P xs
  All-of P f [] = tt
  All-of P f (x ∷ xs) = (f x, All-of P f xs)

  -- what is known of each element by itself is known at once
  pub all_both : (P Q R : A → Type 0) → ((a : A) → P a → Q a → R a) → (xs : List A) → All P xs → All Q xs → All R xs
  all_both P Q R f [] p q = tt
  all_both P Q R f (x ∷ xs) p q = (f x p.0 q.0, all_both P Q R f xs p.1 q.1)

  all_onto : (P : A → Type 0) (xs ys : List A) → All P xs → All P ys → All P (reverse_aux xs ys)
  all_onto P [] ys p q = q
  all_onto P (x ∷ xs) ys p q = all_onto P xs (x ∷ ys) p.1 (p.0, q)

  pub All-reverse : (P : A → Type 0) (xs : List A) → All P xs → All P (reverse xs)
  All-reverse P xs p = all_onto P xs [] p tt

  front_all : (P : A → Type 0) (xs ys : List A) → All P (xs ++ ys) → All P xs × All P ys
  front_all P [] ys p = (tt, p)
  front_all P (x ∷ xs) ys p = let r = front_all P xs ys p.1 in ((p.0, r.0), r.1)

  -- of lists laid end to end
  pub All-joined : (P : A → Type 0) (vs : List (List A)) → All (All P) vs → All P (joined vs)
  All-joined P [] p = tt
  All-joined P (v ∷ vs) p = All-append P v (joined vs) p.0 (All-joined P vs p.1)

  pub joined_all : (P : A → Type 0) (vs : List (List A)) → All P (joined vs) → All (All P) vs
  joined_all P [] p = tt
  joined_all P (v ∷ vs) p = let r = front_all P v (joined vs) p in (r.0, joined_all P vs r.1)

  pub All-take : (P : A → Type 0) (n : ℕ) (xs : List A) → All P xs → All P (take n xs)
  All-take P zero xs p = tt
  All-take P (suc n) [] p = tt
  All-take P (suc n) (x ∷ xs) p = (p.0, All-take P n xs p.1)

  pub All-drop : (P : A → Type 0) (n : ℕ) (xs : List A) → All P xs → All P (drop n xs)
  All-drop P zero xs p = p
  All-drop P (suc n) [] p = tt
  All-drop P (suc n) (x ∷ xs) p = All-drop P n xs p.1

module _ {A B : Type 0} where
  pub All-image : (P : B → Type 0) (f : A → B) (xs : List A) → All (λ a. P (f a)) xs → All P (map f xs)
  All-image P f [] p = tt
  All-image P f (x ∷ xs) p = (p.0, All-image P f xs p.1)

  pub map-append : (f : A → B) (xs ys : List A) → map f (xs ++ ys) ≡ map f xs ++ map f ys
  map-append f [] ys = refl
  map-append f (x ∷ xs) ys = ap (λ (r : List B). f x ∷ r) (map-append f xs ys)

  pub map_cong : (f g : A → B) → ((a : A) → f a ≡ g a) → (xs : List A) → map f xs ≡ map g xs
  map_cong f g e [] = refl
  map_cong f g e (x ∷ xs) = ap₂ (λ (y : B) (r : List B). y ∷ r) (e x) (map_cong f g e xs)

  pub map-joined : (f : A → B) (xss : List (List A)) → map f (joined xss) ≡ joined (map (map f) xss)
  map-joined f [] = refl
  map-joined f (xs ∷ xss) = map-append f xs (joined xss) ∙ ap (λ (r : List B). map f xs ++ r) (map-joined f xss)

pub map-map : {A B C : Type 0} (f : A → B) (g : B → C) (xs : List A) → map g (map f xs) ≡ map (λ x. g (f x)) xs
map-map f g [] = refl
map-map {C = C} f g (x ∷ xs) = ap (λ (r : List C). g (f x) ∷ r) (map-map f g xs)

-- pieces of one size, laid end to end and taken apart again
abbrev pub Sized : {A : Type 0} → ℕ → List (List A) → Type 0
Sized k vs = All (λ v. length v ≡ k) vs

module _ {A : Type 0} (k : ℕ) where
  pub length-joined : (vs : List (List A)) → Sized k vs → length (joined vs) ≡ length vs * k
  length-joined [] p = sym (zero-mul k)
  length-joined (v ∷ vs) p = length-append v (joined vs) ∙ ap₂ (λ (a b : ℕ). a + b) p.0 (length-joined vs p.1) ∙ add_comm k (length vs * k) ∙ sym (suc-mul (length vs) k)

  pub pieces-joined : (vs : List (List A)) → Sized k vs → pieces k (length vs) (joined vs) ≡ vs
  pieces-joined [] p = refl
  pieces-joined (v ∷ vs) p =
      ap₂ (λ (a : List A) (r : List A). a ∷ pieces k (length vs) r) (take_at v (joined vs) k p.0) (drop_at v (joined vs) k p.0)
      ∙ ap (λ (r : List (List A)). v ∷ r) (pieces-joined vs p.1)

pub length-joined-le : {A : Type 0} (k : ℕ) (vs : List (List A)) → All (λ v. length v ≤ k) vs → length (joined vs) ≤ length vs * k
length-joined-le k [] p = omega arith
length-joined-le k (v ∷ vs) p = omega (arith, length-append v (joined vs), p.0, length-joined-le k vs p.1, suc-mul (length vs) k)

pub length-pieces : {A : Type 0} (k n : ℕ) (s : List A) → length (pieces k n s) ≡ n
length-pieces k zero s = refl
length-pieces k (suc n) s = ap suc (length-pieces k n (drop k s))

pub sized-pieces : {A : Type 0} (k n : ℕ) (s : List A) → length s ≡ n * k → Sized k (pieces k n s)
sized-pieces k zero s e = tt
sized-pieces k (suc n) s e = (length-take-le k s (omega (arith, suc-mul n k)), sized-pieces k n (drop k s) (omega (arith, suc-mul n k, length-drop k s)))

pub joined-pieces : {A : Type 0} (k n : ℕ) (s : List A) → length s ≡ n * k → joined (pieces k n s) ≡ s
joined-pieces k zero [] e = refl
joined-pieces k zero (x ∷ s) e = absurd (omega (arith, zero-mul k))
joined-pieces {A} k (suc n) s e =
    ap (λ (r : List A). take k s ++ r) (joined-pieces k n (drop k s) (omega (arith, suc-mul n k, length-drop k s))) ∙ take-append-drop k s

pub map_id : {A : Type 0} (xs : List A) → map (λ x. x) xs ≡ xs
map_id [] = refl
map_id {A} (x ∷ xs) = ap (λ (r : List A). x ∷ r) (map_id xs)

pub length_from_lem : (a n : ℕ) → length (from a n) ≡ n
length_from_lem a zero = refl
length_from_lem a (suc n) = ap suc (length_from_lem (suc a) n)

-- lists laid end to end, one part after another
pub joined-append : {A : Type 0} (xs ys : List (List A)) → joined (xs ++ ys) ≡ joined xs ++ joined ys
joined-append [] ys = refl
joined-append {A} (x ∷ xs) ys = ap (λ (r : List A). x ++ r) (joined-append xs ys) ∙ sym (append_assoc x (joined xs) (joined ys))

-- what lies before m is there in the first m
pub take_within : (a n m : ℕ) (s : List ℕ) → a + n ≤ m → take n (drop a (take m s)) ≡ take n (drop a s)
take_within zero n m s h = take-take n m s (omega arith)
take_within (suc a) n zero s h = absurd (omega arith)
take_within (suc a) n (suc m) [] h = refl
take_within (suc a) n (suc m) (x ∷ s) h = take_within a n m s (omega arith)
