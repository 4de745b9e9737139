-- The line that an entry comes from, with one line more.
use Rattle.std.proofs.Common.{◌≡◌, ◌∙◌, ◌++◌, ◌+◌, ◌<◌, ◌≤◌, ◌==◌, ◌&&◌, ◌||◌, ℕ, suc, Bool, true, false, not, nat_lt, List, [], ◌∷◌, length, take, get_or, take_all, Option, Some, None, if◌then◌else◌, refl, sym, ap, ap₂, arith}
use Rattle.std.specs.Prelude.{unwrap_or}
use Rattle.std.specs.List.{list_any}
use Rattle.std.proofs.lemmas.List.{length-take-le, take_more}
use Rattle.line_run.specs.Unprinted.{Trace, has_more, has_no_more, origin_from, origin_with}

any-more : {A : Type 0} (p : A → Bool) (xs : List A) (x : A) → list_any p (xs ++ x ∷ []) ≡ (list_any p xs || p x)
any-more p [] x = go (p x)
  where
    go : (b : Bool) → (b || false) ≡ b
    go true = refl
    go false = refl
any-more p (y ∷ xs) x = go (p y) (any-more p xs x)
  where
    go : (b : Bool) → list_any p (xs ++ x ∷ []) ≡ (list_any p xs || p x) → (b || list_any p (xs ++ x ∷ [])) ≡ ((b || list_any p xs) || p x)
    go true ih = refl
    go false ih = ih

-- what was found with one line more, by what is so of that line
abbrev found_with : Bool → Bool → Option ℕ → ℕ → Option ℕ
found_with of more found k = if of then (if more then Some (unwrap_or found k) else None) else found

first-line : (of more : Bool) (k m : ℕ) → k ≡ m → (if (of && more) && true then Some k else None) ≡ found_with of more None m
first-line true true k m e = ap (λ n. Some n) e
first-line true false k m e = refl
first-line false more k m e = refl

later-line : (a b of more : Bool) (k m n : ℕ) (others : Option ℕ) → m ≡ n
    → (if a && not (b || (of && not more)) then Some k else found_with of more others m) ≡ found_with of more (if a && not b then Some k else others) n
later-line true false true true k m n others e = refl
later-line true false true false k m n others e = refl
later-line true false false more k m n others e = refl
later-line true true of more k m n others e = ap (found_with of more others) e
later-line false b of more k m n others e = ap (found_with of more others) e

origin-more : (t : Trace) (k : ℕ) (line : ℕ × ℕ) (g n : ℕ) → origin_from k (t ++ line ∷ []) g n ≡ origin_with (origin_from k t g n) (k + length t) line g n
origin-more [] k line g n = first-line (line.0 == g) (nat_lt n line.1) k (k + 0) (omega arith)
origin-more (x ∷ t) k line g n =
    ap₂ {C = Option ℕ} (λ (b : Bool) (o : Option ℕ). if has_more g n x && not b then Some k else o) (any-more (has_no_more g n) t line) (origin-more t (k + 1) line g n)
    ∙ later-line (has_more g n x) (list_any (has_no_more g n) t) (line.0 == g) (nat_lt n line.1) k ((k + 1) + length t) (k + suc (length t)) (origin_from (k + 1) t g n) (omega arith)

-- as the code goes through the lines
pub one-more : (t : Trace) (i : ℕ) (line : ℕ × ℕ) (g n : ℕ) (found now : Option ℕ) → i < length t → line ≡ get_or t i line → found ≡ origin_from 0 (take i t) g n → now ≡ origin_with found i line g n
    → now ≡ origin_from 0 (take (i + 1) t) g n
one-more t i line g n found now inside is before after =
    let count : 0 + length (take i t) ≡ i = let k = length-take-le i t (omega (arith, inside)) in omega (arith, k) in
    after
    ∙ ap₂ {C = Option ℕ} (λ (o : Option ℕ) (k : ℕ). origin_with o k line g n) before (sym count)
    ∙ sym (origin-more (take i t) 0 line g n)
    ∙ ap (λ (xs : Trace). origin_from 0 xs g n) (sym (take_more t i line inside ∙ ap (λ (y : ℕ × ℕ). take i t ++ y ∷ []) (sym is)))

pub all-lines : (t : Trace) (i : ℕ) (g n : ℕ) (found : Option ℕ) → length t ≤ i → found ≡ origin_from 0 (take i t) g n → found ≡ origin_from 0 t g n
all-lines t i g n found past is = is ∙ ap (λ (xs : Trace). origin_from 0 xs g n) (take_all i t past)
