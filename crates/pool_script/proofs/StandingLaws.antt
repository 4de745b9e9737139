-- What stands of what was externalized, after one entry more.
use Rattle.std.proofs.Common.{◌≡◌, ◌∙◌, ◌==◌, ◌||◌, ◌<◌, ◌+◌, ◌++◌, ℕ, zero, suc, Bool, true, false, not, List, [], ◌∷◌, Option, Some, None, filter, length, slice_get, take, if◌then◌else◌, refl, sym, ap, ap₂, arith}
use Rattle.std.specs.List.{list_any}
use Rattle.std.proofs.lemmas.List.{append-nil, append_assoc}
use Rattle.std.proofs.lemmas.List.Elements.{filter-append}
use Rattle.scp_spec.specs.Hosts.{Entry}
use Rattle.host_journal.specs.Deciding.{ExternalizedValue, decisions_in}
use Rattle.pool_script.specs.Decisions.{closed_by, closes, closes_it, decided_next, decided_past, left_after_close, standing_in}

left_of_none : (o : Option ℕ) → left_after_close o [] ≡ []
left_of_none None = refl
left_of_none (Some i) = refl

left_of_both : (o : Option ℕ) (ds es : List ExternalizedValue) → left_after_close o (ds ++ es) ≡ left_after_close o ds ++ left_after_close o es
left_of_both None ds es = refl
left_of_both (Some i) ds es = filter-append (λ d. not (d.slot == i)) ds es

any_more : (d : ExternalizedValue) (xs : List Entry) (x : Entry) → list_any (closes_it d) (xs ++ x ∷ []) ≡ (list_any (closes_it d) xs || closes_it d x)
any_more d [] x = with_false (closes_it d x)
  where
    with_false : (b : Bool) → (b || false) ≡ (false || b)
    with_false true = refl
    with_false false = refl
any_more d (y ∷ ys) x = ap (λ b. closes_it d y || b) (any_more d ys x) ∙ parted (closes_it d y) (list_any (closes_it d) ys) (closes_it d x)
  where
    parted : (a b c : Bool) → (a || (b || c)) ≡ ((a || b) || c)
    parted true b c = refl
    parted false b c = refl

-- one decision, kept or not
kept_one : (d : ExternalizedValue) (o : Option ℕ) (b : Bool) (rest : List ExternalizedValue)
    → (if not (b || closes d.slot o) then d ∷ left_after_close o rest else left_after_close o rest) ≡ left_after_close o (if not b then d ∷ rest else rest)
kept_one d None true rest = refl
kept_one d None false rest = refl
kept_one d (Some i) true rest = refl
kept_one d (Some i) false rest = elim (d.slot == i) as (λ c. (if not c then d ∷ filter (λ d. not (d.slot == i)) rest else filter (λ d. not (d.slot == i)) rest) ≡ (if not c then d ∷ filter (λ d. not (d.slot == i)) rest else filter (λ d. not (d.slot == i)) rest)) [ true ↦ refl | false ↦ refl ]

left_of_standing : (xs : List Entry) (x : Entry) (ds : List ExternalizedValue)
    → filter (λ d. not (list_any (closes_it d) (xs ++ x ∷ []))) ds ≡ left_after_close (closed_by x.event) (filter (λ d. not (list_any (closes_it d) xs)) ds)
left_of_standing xs x [] = sym (left_of_none (closed_by x.event))
left_of_standing xs x (d ∷ ds) =
    ap₂ (λ b rest. if not b then d ∷ rest else rest) (any_more d xs x) (left_of_standing xs x ds)
    ∙ kept_one d (closed_by x.event) (list_any (closes_it d) xs) (filter (λ d. not (list_any (closes_it d) xs)) ds)

all_stand : (ds : List ExternalizedValue) → filter (λ d. true) ds ≡ ds
all_stand [] = refl
all_stand (d ∷ ds) = ap (λ l. d ∷ l) (all_stand ds)

standing_more : (xs : List Entry) (x : Entry) → standing_in (xs ++ x ∷ []) ≡ decided_next (standing_in xs) x
standing_more [] x = append-nil _ ∙ all_stand (decisions_in x) ∙ ap (λ l. l ++ decisions_in x) (sym (left_of_none (closed_by x.event)))
standing_more (y ∷ ys) x =
    let o = closed_by x.event in
    let first = filter (λ d. not (list_any (closes_it d) ys)) (decisions_in y) in
    ap₂ (λ a b. a ++ b) (left_of_standing ys x (decisions_in y)) (standing_more ys x)
    ∙ sym (append_assoc (left_after_close o first) (left_after_close o (standing_in ys)) (decisions_in x))
    ∙ ap (λ l. l ++ decisions_in x) (sym (left_of_both o first (standing_in ys)))

one_more : (entries : List Entry) (n : ℕ) (x : Entry) → slice_get entries n ≡ Some x → take (suc n) entries ≡ take n entries ++ x ∷ []
one_more [] n x is = cc
one_more (e ∷ es) zero x is = let e_is : e ≡ x = cc in ap (λ y. y ∷ []) e_is
one_more (e ∷ es) (suc n) x is = ap (λ l. e ∷ l) (one_more es n x is)

past_is : (found : List ExternalizedValue) (entries : List Entry) (n : ℕ) (o : Option Entry) → slice_get entries n ≡ o → n < length entries
    → found ≡ standing_in (take n entries) → decided_past found o ≡ standing_in (take (suc n) entries)
past_is found entries n None none within is = absurd (none_within entries n none within)
  where
    none_within : (es : List Entry) (k : ℕ) → slice_get es k ≡ None → k < length es → ⊥
    none_within [] k e l = omega (arith, l)
    none_within (x ∷ xs) zero e l = cc
    none_within (x ∷ xs) (suc k) e l = none_within xs k e (omega (arith, l))
past_is found entries n (Some x) some within is =
    ap (λ ds. decided_next ds x) is ∙ sym (standing_more (take n entries) x) ∙ ap standing_in (sym (one_more entries n x some))

pub standing_on : (found : List ExternalizedValue) (entries : List Entry) (n : ℕ) → n < length entries → found ≡ standing_in (take n entries)
    → decided_past found (slice_get entries n) ≡ standing_in (take (n + 1) entries)
standing_on found entries n within is =
    let more : suc n ≡ n + 1 = omega arith in
    past_is found entries n (slice_get entries n) refl within is ∙ ap (λ k. standing_in (take k entries)) more
