-- The words of a list are read one by one.
use Rattle.std.proofs.Common.{◌≡◌, ◌∙◌, List, [], ◌∷◌, ◌++◌, refl, sym, ap, subst, append_assoc}
use Rattle.std.specs.Prelude.{Option, Some, None, option_map}
use Rattle.std.proofs.lemmas.Iterator.{YieldsList}
use Rattle.line_script.specs.Script.{Bytes}
use Rattle.line_script.specs.WordLists.{each_word}

-- what is left of the words of a list, and that with what was read it gives what all of them spell
abbrev pub Left : {S A B : Type 0} → (S → Option A → S → Type 0) → (A → Bytes) → (Bytes → Option B) → S → List B
    → List Bytes → Type 0
Left steps v spelled s read words =
    (left : List Bytes) × YieldsList steps v s left
    × (option_map (λ xs. read ++ xs) (each_word spelled left) ≡ each_word spelled words)

nothing_read : {B : Type 0} (r : Option (List B)) (read : List B) → read ≡ [] → option_map (λ xs. read ++ xs) r ≡ r
nothing_read None read e = refl
nothing_read (Some xs) read e = rw e refl

pub all_left : {S A B : Type 0} {steps : S → Option A → S → Type 0} {v : A → Bytes} {s : S}
    (spelled : Bytes → Option B) (t : S) (words : List Bytes) (read : List B)
    → YieldsList steps v s words → t ≡ s → read ≡ [] → Left steps v spelled t read words
all_left {steps = steps} {v = v} spelled t words read h same e =
    (words, subst (λ u. YieldsList steps v u words) (sym same) h, nothing_read (each_word spelled words) read e)

nothing_behind : {B : Type 0} (read : List B) → read ++ [] ≡ read
nothing_behind [] = refl
nothing_behind (x ∷ more) = ap (λ xs. x ∷ xs) (nothing_behind more)

put_first : {B : Type 0} (r : Option (List B)) (old new : List B) (x : B) → new ≡ old ++ x ∷ []
    → option_map (λ xs. new ++ xs) r ≡ option_map (λ xs. old ++ xs) (option_map (λ xs. x ∷ xs) r)
put_first None old new x e = refl
put_first (Some xs) old new x e = rw e (ap (λ all. Some all) (append_assoc old (x ∷ []) xs))

pub one_read : {S A B : Type 0} {steps : S → Option A → S → Type 0} {v : A → Bytes} {s : S}
    (spelled : Bytes → Option B) (t : S) (a : A) (old new : List B) (words : List Bytes) (x : B)
    → Left steps v spelled s old words → steps s (Some a) t → Some x ≡ spelled (v a) → new ≡ old ++ x ∷ []
    → Left steps v spelled t new words
one_read spelled t a old new words x ([], h, e) k is put = absurd (h.runs a t k)
one_read spelled t a old new words x (word ∷ more, h, e) k is put =
    let step = h.runs.1 a t k in
    let named : Some x ≡ spelled word = is ∙ ap spelled step.0 in
    let whole : option_map (λ xs. old ++ xs) (option_map (λ xs. x ∷ xs) (each_word spelled more))
    ≡ each_word spelled words = rw (← named) at e in
    (more, record { runs = step.1 }, put_first (each_word spelled more) old new x put ∙ whole)

pub one_wrong : {S A B : Type 0} {steps : S → Option A → S → Type 0} {v : A → Bytes} {s : S}
    (spelled : Bytes → Option B) (t : S) (a : A) (old : List B) (words : List Bytes)
    → Left steps v spelled s old words → steps s (Some a) t → None ≡ spelled (v a) → None ≡ each_word spelled words
one_wrong spelled t a old words ([], h, e) k is = absurd (h.runs a t k)
one_wrong spelled t a old words (word ∷ more, h, e) k is =
    let step = h.runs.1 a t k in
    let named : None ≡ spelled word = is ∙ ap spelled step.0 in
    rw (← named) at e

pub all_read : {S A B : Type 0} {steps : S → Option A → S → Type 0} {v : A → Bytes} {s : S}
    (spelled : Bytes → Option B) (t : S) (read : List B) (words : List Bytes)
    → Left steps v spelled s read words → steps s None t → Some read ≡ each_word spelled words
all_read spelled t read words ([], h, e) k = ap (λ all. Some all) (sym (nothing_behind read)) ∙ e
all_read spelled t read words (word ∷ more, h, e) k = absurd (h.runs.0 t k)
