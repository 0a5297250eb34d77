-- docs/SPEC.md, S6.10, S6.11, S8.6: the lent outputs, how long they must be, and what a call leaves in them.
-- Assumes nothing.
use Rattle.std.specs.Prelude.{ℕ, ◌≤◌, Bool, ◌&&◌, List, ◌++◌, length, take, drop, leb}
use Rattle.array.specs.Answer.{Answer, gives, refuses, and_then, unless, map_answer, Outcome}
use Rattle.array.specs.Content.{Content, RaggedContent}
-- ---- lengths: of what was written, or of the outputs lent for it

use Rattle.array.specs.declared.answer.Lengths.{Lengths}
use Rattle.array.specs.declared.answer.RaggedLengths.{RaggedLengths}

abbrev pub lengths_of : Content → Lengths
lengths_of c = record { masks = length c.masks; values = length c.values; offsets = length c.offsets }

abbrev pub ragged_lengths_of : RaggedContent → RaggedLengths
ragged_lengths_of c = record { values = length c.values; offsets = length c.offsets }

-- ---- outputs that are long enough, and the test of it: refusal 6

pub record Enough (c : Content) (r : Lengths) : Type 0 where
  pub for_masks : length c.masks ≤ r.masks
  pub for_values : length c.values ≤ r.values
  pub for_offsets : length c.offsets ≤ r.offsets

abbrev pub enough_test : Content → Lengths → Bool
enough_test c r = leb (length c.masks) r.masks && leb (length c.values) r.values && leb (length c.offsets) r.offsets

pub record RaggedEnough (c : RaggedContent) (r : RaggedLengths) : Type 0 where
  pub for_values : length c.values ≤ r.values
  pub for_offsets : length c.offsets ≤ r.offsets

abbrev pub ragged_enough_test : RaggedContent → RaggedLengths → Bool
ragged_enough_test c r = leb (length c.values) r.values && leb (length c.offsets) r.offsets

-- ---- refusal 6: a result for which there is room

abbrev pub if_room : {A : Type 0} → Bool → A → Answer A
if_room enough a = unless enough 6 (gives a)

-- ---- the outputs after an answer: the result over the first of them, what lies beyond it kept; after a refusal all is kept

abbrev pub over : List ℕ → List ℕ → List ℕ
over s old = s ++ drop (length s) old

-- xs over what stands from `at` on
abbrev pub over_at : ℕ → List ℕ → List ℕ → List ℕ
over_at at xs old = over (take at old ++ xs) old

abbrev pub list_after : Answer (List ℕ) → List ℕ → List ℕ
list_after (gives s) old = over s old
list_after (refuses k) old = old

abbrev pub ragged_after : Answer RaggedContent → RaggedContent → RaggedContent
ragged_after (gives c) old = record { values = over c.values old.values; offsets = over c.offsets old.offsets }
ragged_after (refuses k) old = old

abbrev pub content_after : Answer Content → Content → Content
content_after (gives c) old = record { masks = over c.masks old.masks; values = over c.values old.values; offsets = over c.offsets old.offsets }
content_after (refuses k) old = old

-- ---- what a call leaves behind: success names the lengths of what it wrote

abbrev pub list_outcome : Answer (List ℕ) → List ℕ → Outcome ℕ (List ℕ)
list_outcome a old = record { answer = map_answer length a; buffers = list_after a old }

abbrev pub ragged_outcome : Answer RaggedContent → RaggedContent → Outcome RaggedLengths RaggedContent
ragged_outcome a old = record { answer = map_answer ragged_lengths_of a; buffers = ragged_after a old }

abbrev pub content_outcome : Answer Content → Content → Outcome Lengths Content
content_outcome a old = record { answer = map_answer lengths_of a; buffers = content_after a old }

-- a result laid into outputs that are long enough for it, else refusal 6
abbrev pub put_list : List ℕ → List ℕ → Outcome ℕ (List ℕ)
put_list s old = list_outcome (if_room (leb (length s) (length old)) s) old

abbrev pub put_into : Content → Content → Outcome Lengths Content
put_into c old = content_outcome (if_room (enough_test c (lengths_of old)) c) old

-- the same of what a reading gives or refuses
abbrev pub read_outcome : Content → Answer Content → Outcome Lengths Content
read_outcome old a = content_outcome (and_then a (λ c. if_room (enough_test c (lengths_of old)) c)) old

-- ---- what the caller has after a call: the lengths that success names, and what lies in the outputs up to them

pub record Taken : Type 0 where
  pub named : Lengths
  pub content : Content

abbrev pub up_to : Lengths → Content → Content
up_to n c = record { masks = take n.masks c.masks; values = take n.values c.values; offsets = take n.offsets c.offsets }

abbrev pub taken : Outcome Lengths Content → Answer Taken
taken o = and_then o.answer (λ n. gives (record { named = n; content = up_to n o.buffers }))

abbrev pub taken_bytes : Outcome ℕ (List ℕ) → Answer (List ℕ)
taken_bytes o = and_then o.answer (λ n. gives (take n o.buffers))

-- content, and its lengths named
abbrev pub whole : Content → Taken
whole c = record { named = lengths_of c; content = c }
