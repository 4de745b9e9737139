-- Lines, their feeds and how much is kept of one.
use Rattle.std.proofs.Common.{◌≡◌, ◌∙◌, ℕ, ◌+◌, ◌<◌, ◌≤◌, Bool, true, false, cond, List, [], ◌∷◌, ◌++◌, length, take, refl, sym, ap, ap₂, subst, arith, append_assoc, length-append, one-add, add-one}
use Rattle.std.specs.Prelude.{◌==◌, ◌&&◌, ◌||◌, not, nat_lt, position, Option, Some, None, IsTrue}
use Rattle.std.specs.List.{list_all, position_or_len}
use Rattle.std.proofs.lemmas.Bool.Decides.{nat_tests, Decides-eqb}
use Rattle.std.proofs.lemmas.List.{append-nil}
use Rattle.std.proofs.lemmas.List.Folds.{list_all-append, list_any-append}
use Rattle.line_script.specs.Script.{Bytes, lines_with_feeds, has_no_feed}
use Rattle.live_feed.specs.WholeLines.{given, has_hole}
use Rattle.live_feed.specs.Reading.{HeldLine, held, longer, longer_given, Grows}

-- ---- the first line feed

abbrev is_feed : ℕ → Bool
is_feed b = b == 10

abbrev feed_at : Bytes → ℕ
feed_at = position_or_len is_feed

plain_step : (b : ℕ) (more : Bytes) (ends : Bool) → (b == 10) ≡ ends → has_no_feed (take (feed_at more) more) ≡ true
    → has_no_feed (take (cond (not ends) (1 + feed_at more) 0) (b ∷ more)) ≡ true
plain_step b more true e ih = refl
plain_step b more false e ih = rw (one-add, e) ih

plain_before : (xs : Bytes) → has_no_feed (take (feed_at xs) xs) ≡ true
plain_before [] = refl
plain_before (b ∷ more) = plain_step b more (b == 10) refl (plain_before more)

whole_step : (b : ℕ) (more : Bytes) (ends : Bool) → (b == 10) ≡ ends → (length more ≤ feed_at more → has_no_feed more ≡ true)
    → length (b ∷ more) ≤ cond (not ends) (1 + feed_at more) 0 → has_no_feed (b ∷ more) ≡ true
whole_step b more true e ih short = absurd (omega (arith, short))
whole_step b more false e ih short = rw e (ih (omega (arith, short)))

plain_whole : (xs : Bytes) → length xs ≤ feed_at xs → has_no_feed xs ≡ true
plain_whole [] short = refl
plain_whole (b ∷ more) short = whole_step b more (b == 10) refl (plain_whole more) short

fed_step : (b : ℕ) (more : Bytes) (ends : Bool) → (b == 10) ≡ ends → (feed_at more < length more → take (feed_at more + 1) more ≡ take (feed_at more) more ++ 10 ∷ [])
    → cond (not ends) (1 + feed_at more) 0 < length (b ∷ more)
    → take (cond (not ends) (1 + feed_at more) 0 + 1) (b ∷ more) ≡ take (cond (not ends) (1 + feed_at more) 0) (b ∷ more) ++ 10 ∷ []
fed_step b more true e ih within = ap (λ x. x ∷ []) ((Decides-eqb b 10).0 e)
fed_step b more false e ih within = rw (one-add, add-one) (ap (λ xs. b ∷ xs) (rw add-one at (ih (omega (arith, within)))))

fed_at : (xs : Bytes) → feed_at xs < length xs → take (feed_at xs + 1) xs ≡ take (feed_at xs) xs ++ 10 ∷ []
fed_at [] within = absurd (omega (arith, within))
fed_at (b ∷ more) within = fed_step b more (b == 10) refl (fed_at more) within

found_is : (n m : ℕ) (within : Bool) → cond within (Some n) None ≡ Some m → (m ≡ n) × (within ≡ true)
found_is n m true e = (cc, refl)
found_is n m false e = cc

missing_is : (n : ℕ) (within : Bool) → cond within (Some n) None ≡ None → within ≡ false
missing_is n true e = cc
missing_is n false e = refl

below : (m n : ℕ) → nat_lt m n ≡ true → m < n
below m n e = grind (arith, nat_tests)

not_below : (m n : ℕ) → nat_lt m n ≡ false → n ≤ m
not_below m n e = grind (arith, nat_tests)

-- the place of a line feed is that of the first
pub record IsFeed (xs : Bytes) (n : ℕ) : Type 0 where
  pub within : n < length xs
  pub plain : IsTrue (has_no_feed (take n xs))
  pub fed : take (n + 1) xs ≡ take n xs ++ 10 ∷ []

pub feed_found : (xs : Bytes) (n : ℕ) → Some n ≡ position is_feed xs → IsFeed xs n
feed_found xs n e =
    let is = found_is (feed_at xs) n (nat_lt (feed_at xs) (length xs)) (sym e) in
    let within : feed_at xs < length xs = below (feed_at xs) (length xs) is.1 in
    subst (IsFeed xs) (sym is.0) (record { within = within; plain = plain_before xs; fed = fed_at xs within })

pub feed_missing : (xs : Bytes) → None ≡ position is_feed xs → IsTrue (has_no_feed xs)
feed_missing xs e = plain_whole xs (not_below (feed_at xs) (length xs) (missing_is (feed_at xs) (nat_lt (feed_at xs) (length xs)) (sym e)))

pub plain_both : (xs ys : Bytes) → IsTrue (has_no_feed xs) → IsTrue (has_no_feed ys) → IsTrue (has_no_feed (xs ++ ys))
plain_both xs ys a b = list_all-append (λ b. not (b == 10)) xs ys ∙ ap₂ (λ (s t : Bool). s && t) a b

-- ---- lines one behind the other

pub one_line_more : (lines : List Bytes) (line : Bytes) → lines_with_feeds (lines ++ line ∷ []) ≡ lines_with_feeds lines ++ (line ++ 10 ∷ [])
one_line_more [] line = refl
one_line_more (first ∷ lines) line =
    ap (λ xs. first ++ 10 ∷ xs) (one_line_more lines line) ∙ sym (append_assoc first (10 ∷ lines_with_feeds lines) (line ++ 10 ∷ []))

pub plain_more : (lines : List Bytes) (line : Bytes) → IsTrue (list_all has_no_feed lines) → IsTrue (has_no_feed line) → IsTrue (list_all has_no_feed (lines ++ line ∷ []))
plain_more lines line a b = list_all-append has_no_feed lines (line ∷ []) ∙ ap₂ (λ (s t : Bool). s && (t && true)) a b

-- ---- how much is kept

over_by : (longest : ℕ) (line more : Bytes) (over : Bool) → nat_lt longest (length line) ≡ over
    → longer_given longest (cond over None (Some line)) more ≡ given longest (line ++ more)
over_by longest line more true e =
    let long : nat_lt longest (length (line ++ more)) ≡ true = above longest (length line) (length (line ++ more)) e (omega (arith, length-append line more)) in
    sym (ap (λ (over : Bool). cond over None (Some (line ++ more))) long)
  where
    above : (l m n : ℕ) → nat_lt l m ≡ true → m ≤ n → nat_lt l n ≡ true
    above l m n h within = grind (arith, nat_tests)
over_by longest line more false e = refl

hole_both : (xs ys : Bytes) → has_hole (xs ++ ys) ≡ (has_hole xs || has_hole ys)
hole_both xs ys = list_any-append (λ b. b == 0) xs ys

abbrev held_as : Option Bytes → Bool → HeldLine
held_as g s = record { given = g; hole = s }

pub grows : (longest : ℕ) (before after : HeldLine) (more : Bytes) → after ≡ longer longest before more → Grows longest before after more
grows longest before after more e line was =
    e ∙ ap (λ kept. longer longest kept more) was
    ∙ ap₂ held_as (over_by longest line more (nat_lt longest (length line)) refl) (sym (hole_both line more))

pub grows_nothing : (longest : ℕ) (kept : HeldLine) → Grows longest kept kept []
grows_nothing longest kept line was = was ∙ ap (held longest) (sym (append-nil line))

-- what came last is taken back
pub taken_back : (n : ℕ) (xs ys zs : Bytes) → n ≡ length xs → ys ≡ xs ++ zs → take n ys ≡ xs
taken_back n xs ys zs e f = ap₂ (λ (m : ℕ) l. take m l) e f ∙ front xs zs
  where
    front : (xs zs : Bytes) → take (length xs) (xs ++ zs) ≡ xs
    front [] zs = refl
    front (x ∷ xs) zs = ap (λ l. x ∷ l) (front xs zs)
