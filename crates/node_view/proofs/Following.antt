-- A row that comes in the place of another one, or as a first one: what the reached rows say then, and which ballots are listed.
use Rattle.std.proofs.Common.{◌≡◌, ℕ, Bool, true, false, not, ◌&&◌, ◌==◌, List, [], ◌++◌, Option, Some, None, filter, flat_map, if◌then◌else◌, option_map, refl, sym, ◌∙◌, ap, subst, inl, inr, ◌⊎◌}
use Rattle.std.specs.List.{Contains}
use Rattle.std.proofs.lemmas.Bool.{and_from, and_parts, cases_Bool, eq-eqb, eqb-true, not-true, true≢false}
use Rattle.std.proofs.lemmas.List.Elements.{Contains-append_cases, Contains-append_left, Contains-append_right}
use Rattle.scp_types.specs.declared.ballot.Ballot.{Ballot}
use Rattle.scp_types.specs.declared.kind.Kind.{Kind}
use Rattle.scp_types.specs.declared.statement.Statement.{Statement}
use Rattle.scp_types.specs.Statements.{Sent, kind_of}
use Rattle.scp_spec.specs.Candidates.{has_positive_counter}
use Rattle.scp_spec.specs.Rows.{is_kind, row, with_row}
use Rattle.scp_spec.specs.Sets.{among}
use Rattle.scp_spec.proofs.Statements.Offers.{is_row_of-parts, row-with, same_kind}
use Rattle.node_view.specs.Knowing.{IsHeard, is_heard, is_of_another}
use Rattle.node_view.specs.Listing.{AreLeft, AreListed}
use Rattle.node_view.specs.Watching.{rows_of_others, said_by_another}
use Rattle.node_view.proofs.FoundRows.{among_from, among_to, row_is}
use Rattle.node_view.proofs.Leaving.{none_left}
use Rattle.node_view.proofs.SameRows.{AreSame, found_from, found_to, given_from, given_to, kept_from, kept_to, same_given, same_kept}

one_statement : (s t : Statement) → Some s ≡ Some t → s ≡ t
one_statement s t h = cc

-- ---- what the rows of the others say
module _ (k : Kind) (own : ℕ) (nodes : List ℕ) (old : List Sent) (e : Sent) (heard : is_heard k own nodes e ≡ true) where
  abbrev pub said_old : ℕ → Option Statement
  said_old u = said_by_another own (row old u k)

  abbrev pub said_new : ℕ → Option Statement
  said_new u = said_by_another own (row (with_row e old) u k)

  pub parts : (is_kind k (kind_of e.body) ≡ true) × ((own == e.sender) ≡ false) × (among nodes e.sender ≡ true)
  parts =
      let p = and_parts (is_kind k (kind_of e.body)) (is_of_another own nodes e) heard in
      let q = and_parts (not (own == e.sender)) (among nodes e.sender) p.1 in
      (p.0, not-true (own == e.sender) q.0, q.1)

  pub other_row : (u : ℕ) → (e.sender == u) ≡ false → row (with_row e old) u k ≡ row old u k
  other_row u h =
      row-with e old u k ∙ ap (λ b. if b && is_kind k (kind_of e.body) then Some e else row old u k) h

  this_row : row (with_row e old) e.sender k ≡ Some e
  this_row =
      row-with e old e.sender k
      ∙ ap (λ b. if b then Some e else row old e.sender k)
      (and_from (e.sender == e.sender) (is_kind k (kind_of e.body)) (eq-eqb e.sender e.sender refl) parts.0)

  pub now_said : said_new e.sender ≡ Some e.body
  now_said = ap (said_by_another own) this_row ∙ ap (λ b. if b then None else Some e.body) parts.1

  -- what one says as before, but for the sender
  pub stays : (s : Statement) → Contains (rows_of_others own k old nodes) s → (said_old e.sender ≡ Some s) ⊎ Contains (rows_of_others own k (with_row e old) nodes) s
  stays s c =
      let r = found_from said_old nodes s c in
      elim (cases_Bool (e.sender == r.0)) [
        | inl h ↦ inl (ap said_old (eqb-true e.sender r.0 h) ∙ r.2)
        | inr h ↦ inr (found_to said_new nodes r.0 s r.1 (ap (said_by_another own) (other_row r.0 h) ∙ r.2))
      ]

  pub came : (s : Statement) → Contains (rows_of_others own k (with_row e old) nodes) s → (e.body ≡ s) ⊎ Contains (rows_of_others own k old nodes) s
  came s c =
      let r = found_from said_new nodes s c in
      elim (cases_Bool (e.sender == r.0)) [
        | inl h ↦ inl (one_statement e.body s (sym now_said ∙ ap said_new (eqb-true e.sender r.0 h) ∙ r.2))
        | inr h ↦ inr (found_to said_old nodes r.0 s r.1 (sym (ap (said_by_another own) (other_row r.0 h)) ∙ r.2))
      ]

  pub stands : Contains (rows_of_others own k (with_row e old) nodes) e.body
  stands = found_to said_new nodes e.sender e.body (among_to nodes e.sender parts.2) now_said

  -- what the sender said before
  said_before : (before : Option Sent) → before ≡ row old e.sender (kind_of e.body) → option_map (λ (x : Sent). x.body) before ≡ said_old e.sender
  said_before before is = go before (is ∙ ap (row old e.sender) (sym (same_kind k (kind_of e.body) parts.0)))
    where
      go : (o : Option Sent) → o ≡ row old e.sender k → option_map (λ (x : Sent). x.body) o ≡ said_by_another own (row old e.sender k)
      go None at = ap (said_by_another own) at
      go (Some x) at =
          let sender : x.sender ≡ e.sender = (is_row_of-parts e.sender k x (row_is old e.sender k x (sym at))).0 in
          ap (λ b. if b then None else Some x.body) (sym (ap (λ u. own == u) sender ∙ parts.1)) ∙ ap (said_by_another own) at

  -- ---- which ballots are listed
  module _ (by : Statement → List Ballot) (listed mid now going : List Ballot) where
    pub followed : ((s : Statement) → said_old e.sender ≡ Some s → (x : Ballot) → Contains (by s) x → Contains going x)
        → AreListed listed (filter has_positive_counter (flat_map by (rows_of_others own k old nodes)))
        → AreListed mid (listed ++ filter has_positive_counter (by e.body))
        → AreLeft (filter has_positive_counter (flat_map by (rows_of_others own k (with_row e old) nodes))) going mid now
        → AreListed now (filter has_positive_counter (flat_map by (rows_of_others own k (with_row e old) nodes)))
    followed goes are added left x = (over, back)
      where
        before : List Statement
        before = rows_of_others own k old nodes

        after : List Statement
        after = rows_of_others own k (with_row e old) nodes

        -- a ballot that was listed, or is added now
        from_mid : Contains mid x → (Contains (flat_map by before) x ⊎ Contains (by e.body) x) × (has_positive_counter x ≡ true)
        from_mid c = elim (Contains-append_cases listed (filter has_positive_counter (by e.body)) x ((added x).0 c)) [
          | inl i ↦ let r = kept_from has_positive_counter (flat_map by before) x ((are x).0 i) in (inl r.0, r.1)
          | inr i ↦ let r = kept_from has_positive_counter (by e.body) x i in (inr r.0, r.1)
        ]

        still : Contains (flat_map by before) x ⊎ Contains (by e.body) x → Contains (filter has_positive_counter (flat_map by after)) x ⊎ (Contains going x → ⊥) → Contains (flat_map by after) x
        still i (inl s) = (kept_from has_positive_counter (flat_map by after) x s).0
        still (inr i) (inr n) = given_to by after e.body x stands i
        still (inl i) (inr n) =
            let r = given_from by before x i in
            elim (stays r.0 r.1) [
              | inl q ↦ absurd (n (goes r.0 q x r.2))
              | inr c ↦ given_to by after r.0 x c r.2
            ]

        over : Contains now x → Contains (filter has_positive_counter (flat_map by after)) x
        over c =
            let r = (left x).0 c in
            let m = from_mid r.0 in
            kept_to has_positive_counter (flat_map by after) x (still m.0 r.1) m.1

        into_mid : Contains (flat_map by after) x → has_positive_counter x ≡ true → Contains mid x
        into_mid c counted =
            let r = given_from by after x c in
            elim (came r.0 r.1) [
              | inl q ↦ (added x).1 (Contains-append_right listed (filter has_positive_counter (by e.body)) x (kept_to has_positive_counter (by e.body) x (subst (λ s. Contains (by s) x) (sym q) r.2) counted))
              | inr i ↦ (added x).1 (Contains-append_left listed (filter has_positive_counter (by e.body)) x ((are x).1 (kept_to has_positive_counter (flat_map by before) x (given_to by before r.0 x i r.2) counted)))
            ]

        back : Contains (filter has_positive_counter (flat_map by after)) x → Contains now x
        back c = let r = kept_from has_positive_counter (flat_map by after) x c in (left x).1 (into_mid r.0 r.1, inl c)

-- ---- a row of the other kind, of the node itself or of a stranger
module _ (k : Kind) (own : ℕ) (nodes : List ℕ) (old : List Sent) (e : Sent) (unheard : is_heard k own nodes e ≡ false) where
  own_silent : (t : List Sent) (u : ℕ) → own ≡ u → said_by_another own (row t u k) ≡ None
  own_silent t u is = go (row t u k) refl
    where
      go : (o : Option Sent) → row t u k ≡ o → said_by_another own o ≡ None
      go None at = refl
      go (Some x) at =
          let sender : x.sender ≡ u = (is_row_of-parts u k x (row_is t u k x at)).0 in
          ap (λ b. if b then None else Some x.body) (eq-eqb own x.sender (is ∙ sym sender))

  pub as_before : (u : ℕ) → Contains nodes u → said_by_another own (row (with_row e old) u k) ≡ said_by_another own (row old u k)
  as_before u c = go (cases_Bool (e.sender == u)) (cases_Bool (is_kind k (kind_of e.body))) (cases_Bool (own == e.sender))
    where
      row_stays : (e.sender == u) && is_kind k (kind_of e.body) ≡ false → said_by_another own (row (with_row e old) u k) ≡ said_by_another own (row old u k)
      row_stays h = ap (said_by_another own) (row-with e old u k ∙ ap (λ b. if b then Some e else row old u k) h)

      go : ((e.sender == u) ≡ true) ⊎ ((e.sender == u) ≡ false) → (is_kind k (kind_of e.body) ≡ true) ⊎ (is_kind k (kind_of e.body) ≡ false) → ((own == e.sender) ≡ true) ⊎ ((own == e.sender) ≡ false)
          → said_by_another own (row (with_row e old) u k) ≡ said_by_another own (row old u k)
      go (inr other) kinds o = row_stays (ap (λ b. b && is_kind k (kind_of e.body)) other)
      go (inl this) (inr another) o = row_stays (ap (λ b. b && is_kind k (kind_of e.body)) this ∙ another)
      go (inl this) (inl kind) (inl itself) =
          let is : own ≡ u = eqb-true own e.sender itself ∙ eqb-true e.sender u this in
          own_silent (with_row e old) u is ∙ sym (own_silent old u is)
      go (inl this) (inl kind) (inr other) =
          let reached : among nodes e.sender ≡ true = ap (among nodes) (eqb-true e.sender u this) ∙ among_from nodes u c in
          let all : is_heard k own nodes e ≡ true =
          and_from (is_kind k (kind_of e.body)) (is_of_another own nodes e) kind
          (and_from (not (own == e.sender)) (among nodes e.sender) (ap not other) reached) in
          absurd (true≢false (sym all ∙ unheard))

  pub said_alike : AreSame (rows_of_others own k old nodes) (rows_of_others own k (with_row e old) nodes)
  said_alike s = (
    λ c. let r = found_from (λ u. said_by_another own (row old u k)) nodes s c in found_to (λ u. said_by_another own (row (with_row e old) u k)) nodes r.0 s r.1 (as_before r.0 r.1 ∙ r.2),
    λ c. let r = found_from (λ u. said_by_another own (row (with_row e old) u k)) nodes s c in found_to (λ u. said_by_another own (row old u k)) nodes r.0 s r.1 (sym (as_before r.0 r.1) ∙ r.2),
  )

  pub listed_alike : (by : Statement → List Ballot) (listed : List Ballot) → AreListed listed (filter has_positive_counter (flat_map by (rows_of_others own k old nodes)))
      → AreListed listed (filter has_positive_counter (flat_map by (rows_of_others own k (with_row e old) nodes)))
  listed_alike by listed are x =
      let same = same_kept has_positive_counter _ _ (same_given by _ _ said_alike) x in
      (λ c. same.0 ((are x).0 c), λ c. (are x).1 (same.1 c))

-- ---- as the code lists them: a first row takes nothing away
module _ (own : ℕ) (nodes : List ℕ) (old new : List Sent) (e : Sent) (by : Statement → List Ballot) (listed added : List Ballot) where
  pub first_followed : IsHeard own nodes old new e None
      → AreListed listed (filter has_positive_counter (flat_map by (rows_of_others own Kind.Ballot old nodes)))
      → AreListed added (listed ++ filter has_positive_counter (by e.body))
      → AreListed added (filter has_positive_counter (flat_map by (rows_of_others own Kind.Ballot new nodes)))
  first_followed h are adds =
      subst (λ (t : List Sent). AreListed added (filter has_positive_counter (flat_map by (rows_of_others own Kind.Ballot t nodes)))) (sym h.taken.now)
      (followed Kind.Ballot own nodes old e h.heard by listed added added [] goes are adds
      (none_left (filter has_positive_counter (flat_map by (rows_of_others own Kind.Ballot (with_row e old) nodes))) added))
    where
      goes : (s : Statement) → said_old Kind.Ballot own nodes old e h.heard e.sender ≡ Some s → (x : Ballot) → Contains (by s) x → Contains [] x
      goes s q x c =
          let none : None ≡ Some s = sym h.said ∙ said_before Kind.Ballot own nodes old e h.heard h.row h.taken.replaced ∙ q in
          cc

  -- another one takes away what it alone spoke of
  pub other_followed : (before : Statement) (left : List Ballot) → IsHeard own nodes old new e (Some before)
      → AreListed listed (filter has_positive_counter (flat_map by (rows_of_others own Kind.Ballot old nodes)))
      → AreListed added (listed ++ filter has_positive_counter (by e.body))
      → AreLeft (filter has_positive_counter (flat_map by (rows_of_others own Kind.Ballot new nodes))) (by before) added left
      → AreListed left (filter has_positive_counter (flat_map by (rows_of_others own Kind.Ballot new nodes)))
  other_followed before left h are adds leaves =
      subst (λ (t : List Sent). AreListed left (filter has_positive_counter (flat_map by (rows_of_others own Kind.Ballot t nodes)))) (sym h.taken.now)
      (followed Kind.Ballot own nodes old e h.heard by listed added left (by before) goes are adds
      (subst (λ (t : List Sent). AreLeft (filter has_positive_counter (flat_map by (rows_of_others own Kind.Ballot t nodes))) (by before) added left) h.taken.now leaves))
    where
      goes : (s : Statement) → said_old Kind.Ballot own nodes old e h.heard e.sender ≡ Some s → (x : Ballot) → Contains (by s) x → Contains (by before) x
      goes s q x c =
          let same : Some before ≡ Some s = sym h.said ∙ said_before Kind.Ballot own nodes old e h.heard h.row h.taken.replaced ∙ q in
          subst (λ t. Contains (by t) x) (sym (one_statement before s same)) c

-- ---- of whom and of which kind a row is
pub unheard_itself : (k : Kind) (own : ℕ) (nodes : List ℕ) (e : Sent) → is_of_another own nodes e ≡ false → is_heard k own nodes e ≡ false
unheard_itself k own nodes e h = ap (λ b. is_kind k (kind_of e.body) && b) h ∙ and_false (is_kind k (kind_of e.body))
  where
    and_false : (b : Bool) → (b && false) ≡ false
    and_false true = refl
    and_false false = refl

pub unheard_kind : (k j : Kind) (own : ℕ) (nodes : List ℕ) (e : Sent) → kind_of e.body ≡ j → is_kind k j ≡ false → is_heard k own nodes e ≡ false
unheard_kind k j own nodes e is other = ap (λ b. b && is_of_another own nodes e) (ap (is_kind k) is ∙ other)

pub heard_kind : (k : Kind) (own : ℕ) (nodes : List ℕ) (e : Sent) → kind_of e.body ≡ k → is_kind k k ≡ true → is_of_another own nodes e ≡ true → is_heard k own nodes e ≡ true
heard_kind k own nodes e is itself another = and_from (is_kind k (kind_of e.body)) (is_of_another own nodes e) (ap (is_kind k) is ∙ itself) another
