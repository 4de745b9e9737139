-- The rows of a table after an offer. 4 laws, `Nodes`, `Passes`, `Reach`, and the crates `node_table` and `node_view`
-- stand on it.
use Rattle.std.proofs.Common.{◌≡◌, ℕ, Bool, true, false, not, cond, ◌&&◌, ◌==◌, Some, None, List, [], ◌∷◌, ◌++◌, if◌then◌else◌, refl, sym, ◌∙◌, ap, ap₂, subst}
use Rattle.std.specs.List.{find, list_all}
use Rattle.std.proofs.lemmas.Bool.{and_parts, and_from, not_from_false, false_from_ne_true, true≢false, false≢true, eqb-true, eq-eqb}
use Rattle.std.proofs.lemmas.List.Sums.{fold-append}
use Rattle.scp_types.specs.declared.kind.Kind.{Kind}
use Rattle.scp_types.specs.declared.kind.Kind.TheVariants.{Nomination}
use Rattle.scp_types.specs.declared.statement.Statement.{Statement}
use Rattle.scp_types.specs.declared.statement.Statement.TheVariants.{Externalize}
use Rattle.scp_types.specs.Statements.{Sent, kind_of}
use Rattle.scp_spec.specs.Newer.{is_newer}
use Rattle.scp_spec.specs.Rows.{is_kind, is_row_of, row, with_row, replaces, is_taken, table_with_offer, table_with_offers, has_single_rows, table_after}
use Rattle.scp_spec.specs.History.{is_externalize}

pub same_kind : (j k : Kind) → is_kind j k ≡ true → j ≡ k
same_kind Nomination Nomination h = refl
same_kind Nomination Kind.Ballot h = absurd (false≢true h)
same_kind Kind.Ballot Nomination h = absurd (false≢true h)
same_kind Kind.Ballot Kind.Ballot h = refl

pub is_kind-itself : (k : Kind) → is_kind k k ≡ true
is_kind-itself Nomination = refl
is_kind-itself Kind.Ballot = refl

-- whose row an envelope is
pub is_row_of-parts : (u : ℕ) (k : Kind) (e : Sent) → is_row_of u k e ≡ true → (e.sender ≡ u) × (kind_of e.body ≡ k)
is_row_of-parts u k e h =
    let p = and_parts (e.sender == u) (is_kind k (kind_of e.body)) h in
    (eqb-true e.sender u p.0, sym (same_kind k (kind_of e.body) p.1))

pub is_row_of-own : (e : Sent) → is_row_of e.sender (kind_of e.body) e ≡ true
is_row_of-own e =
    and_from (e.sender == e.sender) (is_kind (kind_of e.body) (kind_of e.body)) (eq-eqb e.sender e.sender refl)
    (is_kind-itself (kind_of e.body))

-- envelopes of one sender and kind are rows alike
pub is_row_of-alike : (u : ℕ) (k : Kind) (x e : Sent) → is_row_of e.sender (kind_of e.body) x ≡ true
    → is_row_of u k x ≡ is_row_of u k e
is_row_of-alike u k x e h =
    let p = is_row_of-parts e.sender (kind_of e.body) x h in
    ap₂ (λ (s : ℕ) (j : Kind). (s == u) && is_kind k j) p.0 p.1

-- and what is a row of the same is of one sender and kind
pub is_row_of-both : (u : ℕ) (k : Kind) (x e : Sent) → is_row_of u k x ≡ true → is_row_of u k e ≡ true
    → is_row_of e.sender (kind_of e.body) x ≡ true
is_row_of-both u k x e a b =
    let p = is_row_of-parts u k e b in
    subst (λ j. is_row_of e.sender j x ≡ true) (sym p.1) (subst (λ w. is_row_of w k x ≡ true) (sym p.0) a)

pub row-with : (e : Sent) (table : List Sent) (u : ℕ) (k : Kind)
    → row (with_row e table) u k ≡ (if is_row_of u k e then Some e else row table u k)
unfolding row with_row
row-with e [] u k = go (is_row_of u k e)
  where
    go : (b : Bool) → cond b (Some e) None ≡ (if b then Some e else None)
    go true = refl
    go false = refl
row-with e (x ∷ xs) u k =
    go (is_row_of e.sender (kind_of e.body) x) (is_row_of u k x) (is_row_of u k e) refl refl refl (row-with e xs u k)
  where
    go : (a b c : Bool) → is_row_of e.sender (kind_of e.body) x ≡ a → is_row_of u k x ≡ b → is_row_of u k e ≡ c
        → find (is_row_of u k) (with_row e xs) ≡ (if c then Some e else find (is_row_of u k) xs)
        → find (is_row_of u k) (if a then e ∷ xs else x ∷ with_row e xs)
        ≡ (if c then Some e else cond b (Some x) (find (is_row_of u k) xs))
    go true b true p q r ih = rw r refl
    go true true false p q r ih = absurd (true≢false (sym q ∙ (is_row_of-alike u k x e p ∙ r)))
    go true false false p q r ih = rw r refl
    go false true true p q r ih = absurd (true≢false (sym (is_row_of-both u k x e q r) ∙ p))
    go false true false p q r ih = rw q refl
    go false false true p q r ih = rw q ih
    go false false false p q r ih = rw q ih

-- what a table takes becomes the row of its sender and kind, and no other row changes
pub row-offered : (table : List Sent) (e : Sent) (u : ℕ) (k : Kind)
    → row (table_with_offer table e) u k
    ≡ (if is_row_of u k e then (if replaces e (row table u k) then Some e else row table u k) else row table u k)
unfolding table_with_offer is_taken
row-offered table e u k = go (is_row_of u k e) refl
  where
    own : is_row_of u k e ≡ true → row table e.sender (kind_of e.body) ≡ row table u k
    own h = let p = is_row_of-parts u k e h in ap₂ (λ w j. row table w j) p.0 p.1

    mine : (a : Bool) → is_row_of u k e ≡ true
        → row (if a then with_row e table else table) u k ≡ (if a then Some e else row table u k)
    mine true h = row-with e table u k ∙ ap (λ b. if b then Some e else row table u k) h
    mine false h = refl

    other : (a : Bool) → is_row_of u k e ≡ false → row (if a then with_row e table else table) u k ≡ row table u k
    other true h = row-with e table u k ∙ ap (λ b. if b then Some e else row table u k) h
    other false h = refl

    go : (b : Bool) → is_row_of u k e ≡ b
        → row (if replaces e (row table e.sender (kind_of e.body)) then with_row e table else table) u k
        ≡ (if b then (if replaces e (row table u k) then Some e else row table u k) else row table u k)
    go true h = mine (replaces e (row table e.sender (kind_of e.body))) h
        ∙ ap (λ o. if replaces e o then Some e else row table u k) (own h)
    go false h = other (replaces e (row table e.sender (kind_of e.body))) h

pub other_row-offered : (table : List Sent) (e : Sent) (u : ℕ) (k : Kind) → is_row_of u k e ≡ false
    → row (table_with_offer table e) u k ≡ row table u k
other_row-offered table e u k h =
    row-offered table e u k
    ∙ ap (λ b. if b then (if replaces e (row table u k) then Some e else row table u k) else row table u k) h

pub own_row-offered : (table : List Sent) (e : Sent)
    → row (table_with_offer table e) e.sender (kind_of e.body)
    ≡ (if is_taken table e then Some e else row table e.sender (kind_of e.body))
unfolding is_taken
own_row-offered table e =
    row-offered table e e.sender (kind_of e.body)
    ∙ ap (λ b. if b then (if replaces e (row table e.sender (kind_of e.body)) then Some e else row table e.sender
    (kind_of e.body)) else row table e.sender (kind_of e.body)) (is_row_of-own e)

-- nothing is newer than an EXTERNALIZE
pub newer-externalize : (s t : Statement) → is_externalize t ≡ true → is_newer s t ≡ false
newer-externalize s (Externalize b k) h = refl
newer-externalize s _ h = absurd (false≢true h)

pub externalize_row-stays : (offers table : List Sent) (u : ℕ) (k : Kind) (x : Sent) → is_externalize x.body ≡ true
    → row table u k ≡ Some x → row (table_with_offers table offers) u k ≡ Some x
externalize_row-stays [] table u k x h r = r
externalize_row-stays (e ∷ es) table u k x h r =
    externalize_row-stays es (table_with_offer table e) u k x h
    (row-offered table e u k ∙ (ap (λ o. if is_row_of u k e then (if replaces e o then Some e else o) else o) r
    ∙ go (is_row_of u k e)))
  where
    go : (b : Bool) → (if b then (if is_newer e.body x.body then Some e else Some x) else Some x) ≡ Some x
    go true = ap (λ c. if c then Some e else Some x) (newer-externalize e.body x.body h)
    go false = refl

-- ---- single rows
all_others-with : (u : ℕ) (k : Kind) (e : Sent) (xs : List Sent) → is_row_of u k e ≡ false
    → list_all (λ x. not (is_row_of u k x)) xs ≡ true → list_all (λ x. not (is_row_of u k x)) (with_row e xs) ≡ true
unfolding with_row
all_others-with u k e [] n h = and_from (not (is_row_of u k e)) true (not_from_false (is_row_of u k e) n) refl
all_others-with u k e (x ∷ xs) n h =
    let p = and_parts (not (is_row_of u k x)) (list_all (λ x. not (is_row_of u k x)) xs) h in
    go (is_row_of e.sender (kind_of e.body) x) p.0 p.1 (all_others-with u k e xs n p.1)
  where
    go : (b : Bool) → not (is_row_of u k x) ≡ true → list_all (λ x. not (is_row_of u k x)) xs ≡ true
        → list_all (λ x. not (is_row_of u k x)) (with_row e xs) ≡ true
        → list_all (λ x. not (is_row_of u k x)) (if b then e ∷ xs else x ∷ with_row e xs) ≡ true
    go true a t ih =
        and_from (not (is_row_of u k e)) (list_all (λ x. not (is_row_of u k x)) xs)
        (not_from_false (is_row_of u k e) n) t
    go false a t ih = and_from (not (is_row_of u k x)) (list_all (λ x. not (is_row_of u k x)) (with_row e xs)) a ih

pub single-with : (e : Sent) (xs : List Sent) → has_single_rows xs ≡ true → has_single_rows (with_row e xs) ≡ true
unfolding with_row
single-with e [] h = refl
single-with e (x ∷ xs) h =
    let p = and_parts (list_all (λ y. not (is_row_of x.sender (kind_of x.body) y)) xs) (has_single_rows xs) h in
    go (is_row_of e.sender (kind_of e.body) x) refl p.0 p.1 (single-with e xs p.1)
  where
    go : (b : Bool) → is_row_of e.sender (kind_of e.body) x ≡ b
        → list_all (λ y. not (is_row_of x.sender (kind_of x.body) y)) xs ≡ true → has_single_rows xs ≡ true
        → has_single_rows (with_row e xs) ≡ true → has_single_rows (if b then e ∷ xs else x ∷ with_row e xs) ≡ true
    go true a t s ih =
        let p = is_row_of-parts e.sender (kind_of e.body) x a in
        and_from (list_all (λ y. not (is_row_of e.sender (kind_of e.body) y)) xs) (has_single_rows xs)
        (subst (λ j. list_all (λ y. not (is_row_of e.sender j y)) xs ≡ true) p.1
        (subst (λ w. list_all (λ y. not (is_row_of w (kind_of x.body) y)) xs ≡ true) p.0 t)) s
    go false a t s ih =
        and_from (list_all (λ y. not (is_row_of x.sender (kind_of x.body) y)) (with_row e xs))
        (has_single_rows (with_row e xs))
        (all_others-with x.sender (kind_of x.body) e xs
        (false_from_ne_true (is_row_of x.sender (kind_of x.body) e)
        (λ y. true≢false (sym (is_row_of-both x.sender (kind_of x.body) x e (is_row_of-own x) y) ∙ a))) t) ih

pub single-offered : (table : List Sent) (e : Sent) → has_single_rows table ≡ true
    → has_single_rows (table_with_offer table e) ≡ true
unfolding table_with_offer
single-offered table e h = go (is_taken table e)
  where
    go : (b : Bool) → has_single_rows (if b then with_row e table else table) ≡ true
    go true = single-with e table h
    go false = h

pub single-offered_all : (es table : List Sent) → has_single_rows table ≡ true
    → has_single_rows (table_with_offers table es) ≡ true
single-offered_all [] table h = h
single-offered_all (e ∷ es) table h = single-offered_all es (table_with_offer table e) (single-offered table e h)

pub single-after : (taken : List Sent) → has_single_rows (table_after taken) ≡ true
unfolding table_after
single-after taken = single-offered_all taken [] refl

-- one envelope more
pub table_after-push : (taken : List Sent) (e : Sent)
    → table_after (taken ++ e ∷ []) ≡ table_with_offer (table_after taken) e
unfolding table_after
table_after-push taken e = fold-append table_with_offer [] taken (e ∷ [])
