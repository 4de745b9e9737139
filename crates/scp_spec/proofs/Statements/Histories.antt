-- The rows of a table are a function of the whole list of offers. The law `rows_follow_from_all_offers` stands on it.
use Rattle.std.proofs.Common.{◌≡◌, ℕ, Bool, true, false, not, cond, ◌&&◌, Option, Some, None, List, [], ◌∷◌, ◌++◌, filter, ◌==◌, if◌then◌else◌, refl, sym, ◌∙◌, ap, ap₂, subst, append_assoc, append-nil}
use Rattle.std.specs.List.{find, fold, list_all}
use Rattle.std.specs.Option.{option_or}
use Rattle.std.proofs.lemmas.Bool.{and_parts, and_from, true≢false, false≢true, not-true, not_from_false}
use Rattle.std.proofs.lemmas.List.Elements.{filter-append}
use Rattle.std.proofs.lemmas.List.Folds.{find-append, list_all-append}
use Rattle.std.proofs.lemmas.List.Sums.{fold-append}
use Rattle.scp_types.specs.declared.kind.Kind.{Kind}
use Rattle.scp_types.specs.declared.kind.Kind.TheVariants.{Nomination}
use Rattle.scp_types.specs.declared.statement.Statement.{Statement}
use Rattle.scp_types.specs.declared.statement.Statement.TheVariants.{Nominate, Prepare, Commit, Externalize}
use Rattle.scp_types.specs.Statements.{Sent, kind_of}
use Rattle.scp_spec.specs.Newer.{is_above, is_newer}
use Rattle.scp_spec.specs.Rows.{is_kind, is_row_of, row, replaces, table_with_offer, table_with_offers, table_after}
use Rattle.scp_spec.specs.History.{is_externalize, is_greatest_of, first_greatest, last_newer, row_among, row_of}
use Rattle.scp_spec.proofs.Statements.Newer.{above-itself, above-back, above-over}
use Rattle.scp_spec.proofs.Statements.Offers.{row-offered, newer-externalize}
use Rattle.scp_spec.proofs.Sets.Lists.{all_weaker}

-- where no element passes
find-nothing : {X : Type 0} (p : X → Bool) (xs : List X) → list_all (λ x. not (p x)) xs ≡ true → find p xs ≡ None
find-nothing p [] h = refl
find-nothing p (x ∷ xs) h =
    let q = and_parts (not (p x)) (list_all (λ x. not (p x)) xs) h in
    ap (λ b. cond b (Some x) (find p xs)) (not-true (p x) q.0) ∙ find-nothing p xs q.1

nothing-find : {X : Type 0} (p : X → Bool) (xs : List X) → find p xs ≡ None → list_all (λ x. not (p x)) xs ≡ true
nothing-find p [] h = refl
nothing-find {X} p (x ∷ xs) h = go (p x) refl h (nothing-find p xs)
  where
    go : (b : Bool) → p x ≡ b → cond b (Some x) (find p xs) ≡ None
        → (find p xs ≡ None → list_all (λ (x : X). not (p x)) xs ≡ true)
        → list_all (λ (x : X). not (p x)) (x ∷ xs) ≡ true
    go true e f ih = cc
    go false e f ih = and_from (not (p x)) (list_all (λ x. not (p x)) xs) (not_from_false (p x) e) (ih f)

-- what holds of each element holds of the one that is found, and it passes
find-passes : {X : Type 0} (P p : X → Bool) (xs : List X) (y : X) → list_all P xs ≡ true → find p xs ≡ Some y
    → (P y ≡ true) × (p y ≡ true)
find-passes P p [] y a h = cc
find-passes {X} P p (x ∷ xs) y a h =
    let q = and_parts (P x) (list_all P xs) a in go (p x) refl q.0 (find-passes P p xs y q.1) h
  where
    go : (b : Bool) → p x ≡ b → P x ≡ true → (find p xs ≡ Some y → (P y ≡ true) × (p y ≡ true))
        → cond b (Some x) (find p xs) ≡ Some y → (P y ≡ true) × (p y ≡ true)
    go true e t ih f = let s : x ≡ y = cc in (subst (λ z. P z ≡ true) s t, subst (λ z. p z ≡ true) s e)
    go false e t ih f = ih f

-- a stronger test finds the same element where that one passes it
find-stronger : {X : Type 0} (p q : X → Bool) → ((x : X) → q x ≡ true → p x ≡ true) → (xs : List X) (y : X)
    → find p xs ≡ Some y → q y ≡ true → find q xs ≡ Some y
find-stronger p q f [] y h t = cc
find-stronger {X} p q f (x ∷ xs) y h t = go (p x) (q x) refl refl h (λ g. find-stronger p q f xs y g t)
  where
    go : (a b : Bool) → p x ≡ a → q x ≡ b → cond a (Some x) (find p xs) ≡ Some y
        → (find p xs ≡ Some y → find q xs ≡ Some y) → cond b (Some x) (find q xs) ≡ Some y
    go true true d e g ih = cc
    go true false d e g ih = let s : x ≡ y = cc in absurd (true≢false (sym t ∙ (sym (ap q s) ∙ e)))
    go false true d e g ih = absurd (false≢true (sym d ∙ f x e))
    go false false d e g ih = ih g

-- ---- the first of the greatest, one envelope more
abbrev later : Option Sent → Sent → Option Sent
later None e = Some e
later (Some b) e = Some (if is_above e.body b.body then e else b)

alone-greatest : (e : Sent) → first_greatest (e ∷ []) ≡ Some e
alone-greatest e = ap (λ b. cond (not b && true) (Some e) None) (above-itself e.body)

-- what is not above the greatest is below what is above the greatest
all_below : (xs : List Sent) (b e : Sent) → is_greatest_of xs b ≡ true → is_above e.body b.body ≡ true
    → list_all (λ x. is_above e.body x.body) xs ≡ true
all_below xs b e g a =
    all_weaker (λ x. not (is_above x.body b.body)) (λ x. is_above e.body x.body)
    (λ x n. above-over e.body b.body x.body a (not-true (is_above x.body b.body) n)) xs g

greatest-more : (xs : List Sent) (e x : Sent)
    → is_greatest_of (xs ++ e ∷ []) x ≡ (is_greatest_of xs x && (not (is_above e.body x.body) && true))
greatest-more xs e x = list_all-append (λ y. not (is_above y.body x.body)) xs (e ∷ [])

greatest-push : (xs : List Sent) (b e : Sent) → first_greatest xs ≡ Some b
    → first_greatest (xs ++ e ∷ []) ≡ later (Some b) e
greatest-push xs b e h = find-append (is_greatest_of (xs ++ e ∷ [])) xs (e ∷ []) ∙ go (is_above e.body b.body) refl
  where
    top : is_greatest_of xs b ≡ true
    top = (find-passes (λ (x : Sent). true) (is_greatest_of xs) xs b (all_true xs) h).1
      where
        all_true : (ys : List Sent) → list_all (λ (x : Sent). true) ys ≡ true
        all_true [] = refl
        all_true (y ∷ ys) = all_true ys

    go : (c : Bool) → is_above e.body b.body ≡ c
        → option_or (find (is_greatest_of (xs ++ e ∷ [])) xs) (find (is_greatest_of (xs ++ e ∷ [])) (e ∷ []))
        ≡ Some (if c then e else b)
    go true a =
        let low = all_below xs b e top a in
        let none : find (is_greatest_of (xs ++ e ∷ [])) xs ≡ None =
        find-nothing (is_greatest_of (xs ++ e ∷ [])) xs
        (all_weaker (λ x. is_above e.body x.body) (λ x. not (is_greatest_of (xs ++ e ∷ []) x))
        (λ x y. not_from_false (is_greatest_of (xs ++ e ∷ []) x)
        (greatest-more xs e x ∙ beaten (is_greatest_of xs x) (is_above e.body x.body) y)) xs low) in
        let passes : is_greatest_of (xs ++ e ∷ []) e ≡ true =
        greatest-more xs e e
        ∙ and_from (is_greatest_of xs e) (not (is_above e.body e.body) && true)
        (all_weaker (λ x. is_above e.body x.body) (λ x. not (is_above x.body e.body))
        (λ x y. not_from_false (is_above x.body e.body) (above-back e.body x.body y)) xs low)
        (ap (λ c. not c && true) (above-itself e.body)) in
        ap₂ option_or none (ap (λ c. cond c (Some e) None) passes)
      where
        beaten : (p c : Bool) → c ≡ true → (p && (not c && true)) ≡ false
        beaten true true f = refl
        beaten false true f = refl
        beaten p false f = absurd (false≢true f)
    go false a =
        let passes : is_greatest_of (xs ++ e ∷ []) b ≡ true =
        greatest-more xs e b
        ∙ and_from (is_greatest_of xs b) (not (is_above e.body b.body) && true) top (ap (λ c. not c && true) a) in
        ap (λ o. option_or o (find (is_greatest_of (xs ++ e ∷ [])) (e ∷ [])))
        (find-stronger (is_greatest_of xs) (is_greatest_of (xs ++ e ∷ []))
        (λ x t. (and_parts (is_greatest_of xs x) (not (is_above e.body x.body) && true)
        (sym (greatest-more xs e x) ∙ t)).0) xs b h passes)

greatest-grown : (es front : List Sent) (b : Sent) → first_greatest front ≡ Some b
    → first_greatest (front ++ es) ≡ fold later (Some b) es
greatest-grown [] front b h = ap first_greatest (append-nil front) ∙ h
greatest-grown (e ∷ es) front b h =
    ap first_greatest (sym (append_assoc front (e ∷ []) es))
    ∙ greatest-grown es (front ++ e ∷ []) (if is_above e.body b.body then e else b) (greatest-push front b e h)

greatest-fold : (es : List Sent) → first_greatest es ≡ fold later None es
greatest-fold [] = refl
greatest-fold (e ∷ es) = greatest-grown es (e ∷ []) e (alone-greatest e)

first_greatest-push : (es : List Sent) (e : Sent) → first_greatest (es ++ e ∷ []) ≡ later (first_greatest es) e
first_greatest-push es e =
    greatest-fold (es ++ e ∷ []) ∙ (fold-append later None es (e ∷ []) ∙ ap (λ o. later o e) (sym (greatest-fold es)))

-- ---- a row, one envelope more
abbrev taken_row : Option Sent → Sent → Option Sent
taken_row r e = if replaces e r then Some e else r

some-if : (e r : Sent) (b : Bool) → Some (if b then e else r) ≡ (if b then Some e else Some r)
some-if e r true = refl
some-if e r false = refl

last_newer-push : (r : Option Sent) (xs : List Sent) (e : Sent)
    → last_newer r (xs ++ e ∷ []) ≡ taken_row (last_newer r xs) e
last_newer-push None [] e = refl
last_newer-push (Some r) [] e = some-if e r (is_newer e.body r.body)
last_newer-push None (x ∷ xs) e = last_newer-push (Some x) xs e
last_newer-push (Some r) (x ∷ xs) e = last_newer-push (Some (if is_newer x.body r.body then x else r)) xs e

abbrev is_voting : Sent → Bool
is_voting e = is_kind Kind.Ballot (kind_of e.body)

abbrev is_external : Sent → Bool
is_external e = is_externalize e.body

-- an EXTERNALIZE is newer than every other ballot statement
externalize-newer : (s t : Statement) → is_kind Kind.Ballot (kind_of t) ≡ true → is_externalize t ≡ false
    → is_externalize s ≡ true → is_newer s t ≡ true
externalize-newer (Externalize b h) (Nominate v a) k n e = absurd (false≢true k)
externalize-newer (Externalize b h) (Prepare b' p' a' h' c') k n e = refl
externalize-newer (Externalize b h) (Commit b' p' h' c') k n e = refl
externalize-newer (Externalize b h) (Externalize b' h') k n e = absurd (true≢false n)
externalize-newer _ t k n e = absurd (false≢true e)

-- newer than another ballot statement is above it
newer-above : (s t : Statement) → is_kind Kind.Ballot (kind_of t) ≡ true → is_externalize t ≡ false
    → is_newer s t ≡ is_above s t
newer-above s (Nominate v a) k n = absurd (false≢true k)
newer-above s (Prepare b p a h c) k n = refl
newer-above s (Commit b p h c) k n = refl
newer-above s (Externalize b h) k n = absurd (true≢false n)

last-external : (e : Sent) (o : Option Sent) (b : Bool) → is_external e ≡ b
    → ((y : Sent) → o ≡ Some y → (is_voting y ≡ true) × (is_external y ≡ false))
    → option_or (cond b (Some e) None) (later o e) ≡ taken_row o e
last-external e None true x f = refl
last-external e (Some y) true x f =
    let p = f y refl in ap (λ c. if c then Some e else Some y) (sym (externalize-newer e.body y.body p.0 p.1 x))
last-external e None false x f = refl
last-external e (Some y) false x f =
    let p = f y refl in some-if e y (is_above e.body y.body)
    ∙ ap (λ c. if c then Some e else Some y) (sym (newer-above e.body y.body p.0 p.1))

voting-push : (es : List Sent) (e : Sent) → list_all is_voting es ≡ true
    → row_among Kind.Ballot (es ++ e ∷ []) ≡ taken_row (row_among Kind.Ballot es) e
voting-push es e v =
    ap₂ option_or (find-append is_external es (e ∷ [])) (first_greatest-push es e) ∙ go (find is_external es) refl
  where
    go : (f : Option Sent) → find is_external es ≡ f
        → option_or (option_or f (cond (is_external e) (Some e) None)) (later (first_greatest es) e)
        ≡ taken_row (option_or f (first_greatest es)) e
    go (Some x) q =
        ap (λ c. if c then Some e else Some x)
        (sym (newer-externalize e.body x.body (find-passes is_voting is_external es x v q).1))
    go None q = last-external e (first_greatest es) (is_external e) refl (λ y h.
        let p = find-passes is_voting (is_greatest_of es) es y v h in
        let n = find-passes (λ x. not (is_external x)) (is_greatest_of es) es y (nothing-find is_external es q) h in
        (p.0, not-true (is_external y) n.0))

all_filtered : (q Q : Sent → Bool) → ((x : Sent) → q x ≡ true → Q x ≡ true) → (xs : List Sent)
    → list_all Q (filter q xs) ≡ true
all_filtered q Q f [] = refl
all_filtered q Q f (x ∷ xs) = go (q x) refl (all_filtered q Q f xs)
  where
    go : (b : Bool) → q x ≡ b → list_all Q (filter q xs) ≡ true
        → list_all Q (cond b (x ∷ filter q xs) (filter q xs)) ≡ true
    go true e ih = and_from (Q x) (list_all Q (filter q xs)) (f x e) ih
    go false e ih = ih

pub row_of-push : (taken : List Sent) (e : Sent) (u : ℕ) (k : Kind)
    → row_of (taken ++ e ∷ []) u k ≡ (if is_row_of u k e then taken_row (row_of taken u k) e else row_of taken u k)
unfolding row_of
row_of-push taken e u k = ap (row_among k) (filter-append (is_row_of u k) taken (e ∷ [])) ∙ go (is_row_of u k e)
  where
    by_kind : (j : Kind) (xs : List Sent) → list_all (λ x. is_kind j (kind_of x.body)) xs ≡ true
        → row_among j (xs ++ e ∷ []) ≡ taken_row (row_among j xs) e
    by_kind Nomination xs v = last_newer-push None xs e
    by_kind Kind.Ballot xs v = voting-push xs e v

    go : (b : Bool)
        → row_among k (filter (is_row_of u k) taken ++ cond b (e ∷ []) [])
        ≡ (if b then taken_row (row_among k (filter (is_row_of u k) taken)) e else row_among k
        (filter (is_row_of u k) taken))
    go true =
        by_kind k (filter (is_row_of u k) taken)
        (all_filtered (is_row_of u k) (λ x. is_kind k (kind_of x.body))
        (λ x m. (and_parts (x.sender == u) (is_kind k (kind_of x.body)) m).1) taken)
    go false = ap (row_among k) (append-nil (filter (is_row_of u k) taken))

exact : (es table front : List Sent) → ((u : ℕ) (k : Kind) → row table u k ≡ row_of front u k) → (u : ℕ) (k : Kind)
    → row (table_with_offers table es) u k ≡ row_of (front ++ es) u k
exact [] table front h u k = h u k ∙ ap (λ xs. row_of xs u k) (sym (append-nil front))
exact (e ∷ es) table front h u k =
    exact es (table_with_offer table e) (front ++ e ∷ [])
    (λ w j. (row-offered table e w j ∙ ap (λ o. if is_row_of w j e then taken_row o e else o) (h w j))
    ∙ sym (row_of-push front e w j)) u k
    ∙ ap (λ xs. row_of xs u k) (append_assoc front (e ∷ []) es)

nothing : (k : Kind) → row_among k [] ≡ None
nothing Nomination = refl
nothing Kind.Ballot = refl

pub table-exact : (taken : List Sent) (u : ℕ) (k : Kind) → row (table_after taken) u k ≡ row_of taken u k
unfolding table_after row row_of
table-exact taken u k = exact taken [] [] (λ w j. sym (nothing j)) u k
