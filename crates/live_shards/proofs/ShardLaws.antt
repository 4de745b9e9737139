-- The shards of a live host answer for the whole.
use Rattle.std.specs.Prelude.{◌≡◌, ◌≢◌, ◌<◌, ◌≤◌, ◌+◌, ◌-◌, eqb, nat_lt, not, ℕ, zero, suc, Bool, true, false, List, [], ◌∷◌, length, map, get_or, set, take, drop, ◌++◌, ◌||◌, Option, Some, None, Result, Ok, Err, IfOk, is_err}
use Rattle.std.proofs.Common.{◌∙◌, append-nil, inl, refl, sym, ap, subst, arith, eq-eqb, eqb-true, true≢false, get_or-set_other, get_or-set_same}
use Rattle.std.specs.List.{All}
use Rattle.std.proofs.lemmas.Bool.{ltb-false}
use Rattle.std.proofs.lemmas.Bool.Decides.{Decides-ltb}
use Rattle.std.proofs.Math.Seq.{get_or-append_seam}
use Rattle.std.proofs.lemmas.List.{get_or-map, get_or_append_left, length-map, length-set, length-take, take-append-drop, map-append, map-set, set-get_or, take_all, drop_all}
use Rattle.std.proofs.lemmas.List.Elements.{All-cons, All-head, All-nil, All-set, All-tail}
use Rattle.line_script.specs.Script.{Bytes}
use Rattle.live_feed.specs.Reading.{HeldLine, given_of}
use Rattle.live_feed.specs.Served.{AreAnswered, LineReply, reply_of}
use Rattle.live_feed.specs.declared.answering.Answer.{Answer}
use Rattle.live_feed.proofs.TogetherLaws.{few_answers}
use Rattle.line_request.specs.declared.ask.Ask.{Ask}
use Rattle.line_request.specs.declared.ask.Ask.TheVariants as ask
use Rattle.line_request.specs.declared.request.Declaration.TheVariants as declaration
use Rattle.live_host.specs.Apart.{HasRoomForNetwork, HasRoomToAnswer}
use Rattle.live_host.specs.Hosts.{Live, Serves, new_live}
use Rattle.live_shards.specs.Dealing.{IsAnsweredInVain, IsDealt}
use Rattle.live_shards.specs.Parts.{AreGathered, AreOwnAnswered, AreParts, ArePlaced, HasRoomForLine, IsHostPart, IsOfPlace, both_of, joined, networks_of, networks_of_all, part_at}
use Rattle.live_shards.specs.Sharded.{AreAnsweredUntil, AreBatchAnswered, AreErrands, AreShards, HasAnsweredItsOwn, hosts_of, waiting_answers}
use Rattle.live_shards.specs.declared.batch.Batch.{Batch}
use Rattle.live_shards.specs.declared.dealing.Dealt.{Dealt}
use Rattle.live_shards.specs.declared.shard.Errand.{Errand}
use Rattle.live_shards.specs.declared.shard.Shard.{Shard}
use Rattle.pool_queue.specs.Doing.{AreTasksDone}
use Rattle.live_shards.proofs.Counted.{joined_hosts_have_all_networks}
use Rattle.live_shards.proofs.Shared.{parts_answer_lines_for_the_whole}
use Rattle.live_shards.proofs.Whole.{parts_answer_for_the_whole}

-- ---- the hosts of shards
abbrev host_of : Shard → Live
host_of s = s.host

at-place : (bytes : Bool) (shards : List Shard) (k : ℕ) (d : Shard) → k < length shards → part_at bytes (hosts_of shards) k ≡ (get_or shards k d).host
at-place bytes shards k d l = get_or-map host_of shards k d (new_live bytes) l

as-many : (shards : List Shard) → length (hosts_of shards) ≡ length shards
as-many shards = length-map shards host_of

same-bytes : (bytes : Bool) (parts : List Live) → AreParts bytes parts → (joined parts).bytes ≡ bytes
same-bytes bytes [] are = absurd (omega (arith, are.some))
same-bytes bytes (l ∷ ls) are = are.alike 0 are.some

-- parts of one host, whichever way it is said how they print
are-shards : (bytes : Bool) (shards : List Shard) → 0 < length shards → All (λ (s : Shard). s.answers.items ≡ []) shards → AreParts bytes (hosts_of shards) → AreShards false shards
are-shards bytes shards some idle are = record { some = some; idle = idle; parts = λ kept. subst (λ b. AreParts b (hosts_of shards)) (sym (same-bytes bytes (hosts_of shards) are)) are }

-- ---- room
room-for-line : (line : Option Bytes) (l : Live) → HasRoomForNetwork l → HasRoomForLine line l
room-for-line None l room = tt
room-for-line (Some line) l room = λ whole fields g asked are asks. room-for asked
  where
    room-for : (asked : Ask) → HasRoomToAnswer asked l
    room-for (ask.Declare (declaration.Net b)) = room
    room-for (ask.Declare (declaration.Node u q)) = tt
    room-for (ask.Declare (declaration.Roster r)) = tt
    room-for (ask.Serve e) = tt
    room-for (ask.ForAll bytes) = tt
    room-for ask.Drop = tt
    room-for ask.Left = tt
    room-for (ask.Show i u) = tt

one-of-all : (parts : List Live) (k : ℕ) (d : Live) → k < length parts → networks_of (get_or parts k d) ≤ networks_of_all parts
one-of-all [] k d l = absurd (omega (arith, l))
one-of-all (p ∷ parts) zero d l = omega arith
one-of-all (p ∷ parts) (suc k) d l = let less = one-of-all parts k d (omega (arith, l)) in omega (arith, less)

-- ---- one line
pub served_by_shard : (shards : List Shard) (n : ℕ) (s d : Shard) (line : Option Bytes) (dealt : Dealt) (a : LineReply) → AreShards false shards → IsDealt (length shards) line dealt
    → (dealt.declares ≡ true → networks_of_all (hosts_of shards) < 4096) → Serves (get_or shards dealt.place d).host n line a s.host → s.answers.items ≡ []
    → Serves (joined (hosts_of shards)) n line a (joined (hosts_of (set shards dealt.place s))) × AreShards false (set shards dealt.place s)
served_by_shard shards n s d line dealt a are dealt_is room serves idle =
    let bytes = (joined (hosts_of shards)).bytes in
    let parts = are.parts refl in
    let many = as-many shards in
    let at = at-place bytes shards dealt.place d dealt_is.within in
    let within : dealt.place < length (hosts_of shards) = omega (arith, dealt_is.within, many) in
    let set_is : hosts_of (set shards dealt.place s) ≡ set (hosts_of shards) dealt.place s.host = map-set host_of shards dealt.place s in
    let of_part : HasRoomForLine line (part_at bytes (hosts_of shards) dealt.place) = rooms dealt.declares refl (part_at bytes (hosts_of shards) dealt.place) (λ less. let one = one-of-all (hosts_of shards) dealt.place (new_live bytes) within in omega (arith, one, less)) in
    let of_all : HasRoomForLine line (joined (hosts_of shards)) = rooms dealt.declares refl (joined (hosts_of shards)) (λ less. let all = joined_hosts_have_all_networks bytes (hosts_of shards) parts in omega (arith, all, less)) in
    let done = parts_answer_for_the_whole bytes (hosts_of shards) dealt.place n line a s.host parts within (subst (λ (m : ℕ). IsOfPlace m dealt.place line) (sym many) dealt_is.place) of_part of_all
    (subst (λ l. Serves l n line a s.host) (sym at) serves) in (
      subst (λ ps. Serves (joined (hosts_of shards)) n line a (joined ps)) (sym set_is) done.0,
      are-shards bytes (set shards dealt.place s) (omega (arith, are.some, length-set shards dealt.place s)) (All-set (λ (s : Shard). s.answers.items ≡ []) shards dealt.place s idle are.idle)
          (subst (AreParts bytes) (sym set_is) done.1),
    )
  where
    rooms : (is : Bool) → dealt.declares ≡ is → (l : Live) → (networks_of_all (hosts_of shards) < 4096 → HasRoomForNetwork l) → HasRoomForLine line l
    rooms true may l small = room-for-line line l (small (room may))
    rooms false quiet l small = dealt_is.quiet quiet l

-- as many networks are declared as may be
pub in_vain : (shards : List Shard) (n : ℕ) (line : Option Bytes) (a : LineReply) → AreShards false shards → 4096 ≤ networks_of_all (hosts_of shards) → IsAnsweredInVain n line a
    → Serves (joined (hosts_of shards)) n line a (joined (hosts_of shards))
in_vain shards n line a are full vain =
    let all = joined_hosts_have_all_networks (joined (hosts_of shards)).bytes (hosts_of shards) (are.parts refl) in
    vain (joined (hosts_of shards)) (omega (arith, all, full))

-- ---- many lines
pub batch_answered : (old now : List Shard) (n : ℕ) (lines : List (Option Bytes)) (places : List ℕ) (answers : List LineReply) → AreShards false old → length now ≡ length old → ArePlaced (length old) lines places
    → ((k : ℕ) (d : Shard) → k < length old → AreOwnAnswered k (get_or old k d).host n lines places (map reply_of (get_or now k d).answers.items) (get_or now k d).host)
    → AreGathered places (waiting_answers now) answers
    → (t : Live) × AreAnswered Serves (joined (hosts_of old)) n lines answers t
    × (length answers ≡ length lines → (t ≡ joined (hosts_of now)) × AreParts (joined (hosts_of old)).bytes (hosts_of now))
batch_answered old now n lines places answers are long placed own gathered =
    let bytes = (joined (hosts_of old)).bytes in
    parts_answer_lines_for_the_whole bytes (hosts_of old) (hosts_of now) n lines places (waiting_answers now) answers (are.parts refl) (as-many now ∙ long ∙ sym (as-many old))
    (length-map now (λ s. map reply_of s.answers.items) ∙ long ∙ sym (as-many old)) (subst (λ (m : ℕ). ArePlaced m lines places) (sym (as-many old)) placed)
    (λ k l.
    let here : k < length old = omega (arith, l, as-many old) in
    let there : k < length now = omega (arith, here, long) in
    let d : Shard = get_or old k (first old are.some) in
    subst (λ s. AreOwnAnswered k s n lines places (get_or (waiting_answers now) k []) (part_at bytes (hosts_of now) k)) (sym (at-place bytes old k d here))
    (subst (λ rs. AreOwnAnswered k (get_or old k d).host n lines places rs (part_at bytes (hosts_of now) k)) (sym (get_or-map (λ (s : Shard). map reply_of s.answers.items) now k d [] there))
    (subst (λ t. AreOwnAnswered k (get_or old k d).host n lines places (map reply_of (get_or now k d).answers.items) t) (sym (at-place bytes now k d there)) (own k d here))))
    gathered
  where
    first : (shards : List Shard) → 0 < length shards → Shard
    first [] l = absurd (omega (arith, l))
    first (s ∷ shards) l = s

-- ---- loops over shards
one_more_counted : (parts : List Live) (k : ℕ) (d : Live) → k < length parts → networks_of_all (take (k + 1) parts) ≡ networks_of_all (take k parts) + networks_of (get_or parts k d)
one_more_counted [] k d l = absurd (omega (arith, l))
one_more_counted (p ∷ parts) zero d l = omega arith
one_more_counted (p ∷ parts) (suc k) d l =
    let same : suc k + 1 ≡ suc (k + 1) = omega arith in
    let rest = one_more_counted parts k d (omega (arith, l)) in
    ap (λ (n : ℕ). networks_of_all (take n (p ∷ parts))) same ∙ omega (arith, rest)

some_counted : (parts : List Live) (k : ℕ) → networks_of_all (take k parts) ≤ networks_of_all parts
some_counted [] zero = omega arith
some_counted [] (suc k) = omega arith
some_counted (p ∷ parts) zero = omega arith
some_counted (p ∷ parts) (suc k) = let less = some_counted parts k in omega (arith, less)

counted_next : (shards : List Shard) (k : ℕ) (s : Shard) → k < length shards → s ≡ get_or shards k s → networks_of_all (take (k + 1) (hosts_of shards)) ≡ networks_of_all (take k (hosts_of shards)) + networks_of s.host
counted_next shards k s l at =
    one_more_counted (hosts_of shards) k s.host (omega (arith, l, as-many shards))
    ∙ ap (λ (h : Live). networks_of_all (take k (hosts_of shards)) + networks_of h) (get_or-map host_of shards k s s.host l ∙ ap host_of (sym at))

pub full_then : (shards : List Shard) (k left count : ℕ) (s : Shard) → left + networks_of_all (take k (hosts_of shards)) ≡ 4096 → k < length shards → s ≡ get_or shards k s → count ≡ networks_of s.host
    → left ≤ count → true ≡ not (nat_lt (networks_of_all (hosts_of shards)) 4096)
full_then shards k left count s so_far l at counted full =
    let one = counted_next shards k s l at in
    let all = some_counted (hosts_of shards) (k + 1) in
    by (nat_lt (networks_of_all (hosts_of shards)) 4096) refl (omega (arith, so_far, counted, full, one, all))
  where
    by : (is : Bool) → nat_lt (networks_of_all (hosts_of shards)) 4096 ≡ is → 4096 ≤ networks_of_all (hosts_of shards) → true ≡ not (nat_lt (networks_of_all (hosts_of shards)) 4096)
    by true is many = let less : networks_of_all (hosts_of shards) < 4096 = (Decides-ltb (networks_of_all (hosts_of shards)) 4096).0 is in absurd (omega (arith, less, many))
    by false is many = ap not (sym is)

pub left_then : (shards : List Shard) (k left count : ℕ) (s : Shard) → left + networks_of_all (take k (hosts_of shards)) ≡ 4096 → k < length shards → s ≡ get_or shards k s → count ≡ networks_of s.host
    → count < left → left - count + networks_of_all (take (k + 1) (hosts_of shards)) ≡ 4096
left_then shards k left count s so_far l at counted less =
    let one = counted_next shards k s l at in
    omega (arith, so_far, counted, less, one)

pub not_full : (shards : List Shard) (k left : ℕ) → left + networks_of_all (take k (hosts_of shards)) ≡ 4096 → 0 < left → length shards ≤ k → false ≡ not (nat_lt (networks_of_all (hosts_of shards)) 4096)
not_full shards k left so_far some l =
    let all : networks_of_all (take k (hosts_of shards)) ≡ networks_of_all (hosts_of shards) = ap networks_of_all (take_all k (hosts_of shards) (omega (arith, l, as-many shards))) in
    ap not (sym ((Decides-ltb (networks_of_all (hosts_of shards)) 4096).1 (omega (arith, so_far, some, all))))

-- ---- answers that are gathered
pub same_hosts : (shards : List Shard) (p : ℕ) (s d : Shard) → p < length shards → s.host ≡ (get_or shards p d).host → hosts_of (set shards p s) ≡ hosts_of shards
same_hosts shards p s d l same =
    map-set host_of shards p s ∙ ap (set (hosts_of shards) p) (same ∙ sym (get_or-map host_of shards p d (host_of d) l)) ∙ set-get_or (hosts_of shards) p (host_of d)

pub answers_set : (shards : List Shard) (p : ℕ) (s : Shard) → waiting_answers (set shards p s) ≡ set (waiting_answers shards) p (map reply_of s.answers.items)
answers_set shards p s = map-set (λ (s : Shard). map reply_of s.answers.items) shards p s

pub answers_at : (shards : List Shard) (p : ℕ) (d : Shard) → p < length shards → get_or (waiting_answers shards) p [] ≡ map reply_of (get_or shards p d).answers.items
answers_at shards p d l = get_or-map (λ (s : Shard). map reply_of s.answers.items) shards p d [] l

pub rested_more : (shards : List Shard) (p : ℕ) (s : Shard) → p < length shards → s.answers.items ≡ [] → ((k : ℕ) (d : Shard) → k < p → (get_or shards k d).answers.items ≡ [])
    → (k : ℕ) (d : Shard) → k < p + 1 → (get_or (set shards p s) k d).answers.items ≡ []
rested_more shards p s l idle before k d less = by (eqb k p) refl
  where
    below : k ≢ p → k < p
    below other = under (nat_lt k p) refl other
      where
        under : (is : Bool) → nat_lt k p ≡ is → k ≢ p → k < p
        under true is other = (Decides-ltb k p).0 is
        under false is other = absurd (other (omega (arith, less, ltb-false k p is)))

    by : (is : Bool) → eqb k p ≡ is → (get_or (set shards p s) k d).answers.items ≡ []
    by true is = ap (λ (j : ℕ). (get_or (set shards p s) j d).answers.items) (eqb-true k p is) ∙ ap (λ (x : Shard). x.answers.items) (get_or-set_same shards p s d l) ∙ idle
    by false is =
        let other : k ≢ p = λ same. true≢false (sym (eq-eqb k p same) ∙ is) in
        let apart : k < p = below (λ same. other same) in
        ap (λ (x : Shard). x.answers.items) (get_or-set_other shards p k s d other) ∙ before k d apart

-- ---- errands
-- the errand of a shard with its place and these lines
abbrev IsErrandOf : Batch → ℕ → Shard → Errand → Type 0
IsErrandOf batch k s e = (e.shard ≡ s) × (e.place ≡ k) × (e.batch ≡ batch)

pub errands_more : (batch : Batch) (shards : List Shard) (es longer : List Errand) (p : ℕ) (x : Errand) → length es ≡ p → longer ≡ es ++ x ∷ []
    → ((k : ℕ) (d : Shard) (e : Errand) → k < p → IsErrandOf batch k (get_or shards k d) (get_or es k e)) → ((d : Shard) → IsErrandOf batch p (get_or shards p d) x)
    → (k : ℕ) (d : Shard) (e : Errand) → k < p + 1 → IsErrandOf batch k (get_or shards k d) (get_or longer k e)
errands_more batch shards es longer p x long is before now k d e less = subst (λ xs. IsErrandOf batch k (get_or shards k d) (get_or xs k e)) (sym is) (by (nat_lt k p) refl)
  where
    by : (b : Bool) → nat_lt k p ≡ b → IsErrandOf batch k (get_or shards k d) (get_or (es ++ x ∷ []) k e)
    by true b =
        let l : k < p = (Decides-ltb k p).0 b in
        subst (IsErrandOf batch k (get_or shards k d)) (sym (get_or_append_left es (x ∷ []) e k (omega (arith, l, long)))) (before k d e l)
    by false b =
        let last : k ≡ p = omega (arith, less, ltb-false k p b) in
        subst (λ j. IsErrandOf batch j (get_or shards j d) (get_or (es ++ x ∷ []) j e)) (sym last)
        (subst (IsErrandOf batch p (get_or shards p d)) (sym (ap (λ j. get_or (es ++ x ∷ []) j e) (sym long) ∙ get_or-append_seam es x [] e)) (now d))

-- what errands did, each of a shard
pub answered_by_errands : (batch : Batch) (old mid : List Shard) (es done : List Errand) → AreErrands batch old es → AreTasksDone HasAnsweredItsOwn es done
    → ((k : ℕ) (d : Shard) (e : Errand) → k < length old → get_or mid k d ≡ (get_or done k e).shard)
    → (k : ℕ) (d : Shard) → k < length old
    → AreOwnAnswered k (get_or old k d).host (batch.count + 1) (map given_of batch.lines.now) batch.places.now (map reply_of (get_or mid k d).answers.items) (get_or mid k d).host
answered_by_errands batch old mid es done are all back k d l =
    let e : Errand = record { shard = d; place = k; batch = batch } in
    let x : Errand = get_or es k e in
    let is = are.each k d e l in
    let whole : x ≡ record { shard = get_or old k d; place = k; batch = batch } = λ i. record { shard = is.0 i; place = is.1 i; batch = is.2 i } in
    let one : HasAnsweredItsOwn x (get_or done k e) = all.each k e (omega (arith, l, are.count)) in
    subst (λ (s : Shard). AreOwnAnswered k (get_or old k d).host (batch.count + 1) (map given_of batch.lines.now) batch.places.now (map reply_of s.answers.items) s.host) (sym (back k d e l))
    (subst (λ (o : Errand). HasAnsweredItsOwn o (get_or done k e)) whole one)

-- ---- a new host
pub record IsFresh (bytes : Bool) (s : Shard) : Type 0 where
  pub bytes_is : s.host.bytes ≡ bytes
  pub waiting : s.host.waiting ≡ []
  pub running : s.host.running ≡ []
  pub idle : s.answers.items ≡ []

is-new : (bytes : Bool) (s : Shard) → IsFresh bytes s → s.host ≡ new_live bytes
is-new bytes s fresh = λ i. record { bytes = fresh.bytes_is i; waiting = fresh.waiting i; running = fresh.running i }

none-waits : (bytes : Bool) (shards : List Shard) → All (IsFresh bytes) shards → (joined (hosts_of shards)).waiting ≡ []
none-waits bytes [] fresh = refl
none-waits bytes (s ∷ shards) fresh =
    ap (λ es. both_of es (joined (hosts_of shards)).waiting) (All-head (IsFresh bytes) s shards fresh).waiting ∙ none-waits bytes shards (All-tail (IsFresh bytes) s shards fresh)

none-runs : (bytes : Bool) (shards : List Shard) → All (IsFresh bytes) shards → (joined (hosts_of shards)).running ≡ []
none-runs bytes [] fresh = refl
none-runs bytes (s ∷ shards) fresh =
    ap (λ es. both_of es (joined (hosts_of shards)).running) (All-head (IsFresh bytes) s shards fresh).running ∙ none-runs bytes shards (All-tail (IsFresh bytes) s shards fresh)

pub fresh_joined : (bytes : Bool) (shards : List Shard) → All (IsFresh bytes) shards → 0 < length shards → joined (hosts_of shards) ≡ new_live bytes
fresh_joined bytes [] fresh some = absurd (omega (arith, some))
fresh_joined bytes (s ∷ shards) fresh some =
    λ i. record { bytes = (All-head (IsFresh bytes) s shards fresh).bytes_is i; waiting = none-waits bytes (s ∷ shards) fresh i; running = none-runs bytes (s ∷ shards) fresh i }

fresh-part : (bytes : Bool) (count k : ℕ) → IsHostPart count k (new_live bytes)
fresh-part bytes count k = record { ordered = record { waiting = tt; running = tt; apart = λ g. inl refl }; own = λ g other. (refl, refl) }

pub fresh_shards : (bytes : Bool) (shards : List Shard) → All (IsFresh bytes) shards → 0 < length shards → AreShards false shards
fresh_shards bytes shards fresh some =
    are-shards bytes shards some (λ k d l. (fresh k d l).idle) (record {
      some = omega (arith, some, as-many shards);
      alike = λ k l. ap (λ (h : Live). h.bytes) (at k l);
      each = λ k l. subst (IsHostPart (length (hosts_of shards)) k) (sym (at k l)) (fresh-part bytes (length (hosts_of shards)) k);
    })
  where
    one : (shards : List Shard) → 0 < length shards → Shard
    one [] l = absurd (omega (arith, l))
    one (s ∷ more) l = s

    at : (k : ℕ) → k < length (hosts_of shards) → part_at bytes (hosts_of shards) k ≡ new_live bytes
    at k l =
        let here : k < length shards = omega (arith, l, as-many shards) in
        at-place bytes shards k (one shards some) here ∙ is-new bytes (get_or shards k (one shards some)) (fresh k (one shards some) here)

-- ---- lines that are placed
take-next : (lines : List HeldLine) (k : ℕ) (h : HeldLine) → k < length lines → get_or lines k h ≡ h → take (k + 1) lines ≡ take k lines ++ h ∷ []
take-next [] k h l at = absurd (omega (arith, l))
take-next (x ∷ xs) zero h l at = ap (λ y. y ∷ []) at
take-next (x ∷ xs) (suc k) h l at =
    let same : suc k + 1 ≡ suc (k + 1) = omega arith in
    ap (λ (n : ℕ). take n (x ∷ xs)) same ∙ ap (λ ys. x ∷ ys) (take-next xs k h (omega (arith, l)) at)

placed-more : (count : ℕ) (lines : List (Option Bytes)) (places : List ℕ) (line : Option Bytes) (p : ℕ) → ArePlaced count lines places → p < count → IsOfPlace count p line
    → ((l : Live) → HasRoomForLine line l) → ArePlaced count (lines ++ line ∷ []) (places ++ p ∷ [])
placed-more count [] [] line p are less of quiet = (less, of, quiet, tt)
placed-more count [] (q ∷ places) line p are less of quiet = absurd are
placed-more count (x ∷ lines) [] line p are less of quiet = absurd are
placed-more count (x ∷ lines) (q ∷ places) line p are less of quiet = (are.0, are.1, are.2, placed-more count lines places line p are.3 less of quiet)

pub placed_next : (count : ℕ) (lines : List HeldLine) (k : ℕ) (h : HeldLine) (places : List ℕ) (dealt : Dealt) → k < length lines → get_or lines k h ≡ h → ArePlaced count (map given_of (take k lines)) places
    → IsDealt count (given_of h) dealt → dealt.declares ≡ false → ArePlaced count (map given_of (take (k + 1) lines)) (places ++ dealt.place ∷ [])
placed_next count lines k h places dealt l at are is quiet =
    let same : map given_of (take (k + 1) lines) ≡ map given_of (take k lines) ++ given_of h ∷ [] = ap (map given_of) (take-next lines k h l at) ∙ map-append given_of (take k lines) (h ∷ []) in
    subst (λ ls. ArePlaced count ls (places ++ dealt.place ∷ [])) (sym same) (placed-more count (map given_of (take k lines)) places (given_of h) dealt.place are is.within is.place (is.quiet quiet))

pub all_placed : (count : ℕ) (lines : List HeldLine) (k : ℕ) (places : List ℕ) → length lines ≤ k → ArePlaced count (map given_of (take k lines)) places → ArePlaced count (map given_of lines) places
all_placed count lines k places l are = subst (λ ls. ArePlaced count (map given_of ls) places) (take_all k lines l) are

pub placed_long : (count : ℕ) (lines : List (Option Bytes)) (places : List ℕ) → ArePlaced count lines places → length places ≡ length lines
placed_long count [] [] are = refl
placed_long count [] (p ∷ places) are = absurd are
placed_long count (x ∷ lines) [] are = absurd are
placed_long count (x ∷ lines) (p ∷ places) are = ap suc (placed_long count lines places are.3)

pub placed_less : (count : ℕ) (lines : List (Option Bytes)) (places : List ℕ) → ArePlaced count lines places → All (λ k. k < count) places
placed_less count [] [] are = All-nil (λ (k : ℕ). k < count)
placed_less count [] (p ∷ places) are = absurd are
placed_less count (x ∷ lines) [] are = absurd are
placed_less count (x ∷ lines) (p ∷ places) are = All-cons (λ (k : ℕ). k < count) p places are.0 (placed_less count lines places are.3)

-- ---- a line of the whole
pub map_ok : {X E : Type 0} {P Q : X → Type 0} (r : Result X E) → ((x : X) → P x → Q x) → IfOk r P → IfOk r Q
map_ok (Ok x) then all = then x all
map_ok (Err e) then all = tt

still-shards : {E : Type 0} (r : Result (Option Answer) E) (shards : List Shard) (n : ℕ) (s d : Shard) (line : Option Bytes) (dealt : Dealt) → AreShards false shards → IsDealt (length shards) line dealt
    → (dealt.declares ≡ true → networks_of_all (hosts_of shards) < 4096) → d ≡ get_or shards dealt.place d → s.answers.items ≡ d.answers.items → IfOk r (λ a. Serves d.host n line (reply_of a) s.host)
    → AreShards (is_err r) (set shards dealt.place s) × IfOk r (λ a. Serves (joined (hosts_of shards)) n line (reply_of a) (joined (hosts_of (set shards dealt.place s))))
still-shards {E} r shards n s d line dealt are dealt_is room at same serves = by r serves
  where
    idle : s.answers.items ≡ []
    idle = same ∙ ap (λ (x : Shard). x.answers.items) at ∙ are.idle dealt.place d dealt_is.within

    by : (r : Result (Option Answer) E) → IfOk r (λ a. Serves d.host n line (reply_of a) s.host)
        → AreShards (is_err r) (set shards dealt.place s) × IfOk r (λ a. Serves (joined (hosts_of shards)) n line (reply_of a) (joined (hosts_of (set shards dealt.place s))))
    by (Ok a) serves =
        let done = served_by_shard shards n s d line dealt (reply_of a) are dealt_is room (subst (λ (x : Shard). Serves x.host n line (reply_of a) s.host) at serves) idle in
        (done.1, done.0)
    by (Err e) serves = (
      record {
        some = omega (arith, are.some, length-set shards dealt.place s);
        idle = All-set (λ (s : Shard). s.answers.items ≡ []) shards dealt.place s idle are.idle;
        parts = λ kept. absurd (true≢false kept);
      },
      tt,
    )

pub shards_served : {E : Type 0} (r : Result (Option Answer) E) (shards : List Shard) (count n : ℕ) (s d : Shard) (line : Option Bytes) (dealt : Dealt) (l : Live) (lost after : Bool) → AreShards lost shards → lost ≡ false
    → count ≡ length shards → IsDealt count line dealt → (dealt.declares ≡ true → networks_of_all (hosts_of shards) < 4096) → d ≡ get_or shards dealt.place d → s.answers.items ≡ d.answers.items → joined (hosts_of shards) ≡ l
    → after ≡ is_err r → IfOk r (λ a. Serves d.host n line (reply_of a) s.host)
    → AreShards after (set shards dealt.place s) × IfOk r (λ a. Serves l n line (reply_of a) (joined (hosts_of (set shards dealt.place s))))
shards_served r shards count n s d line dealt l lost after are open_still many dealt_is room at same view is serves =
    let done = still-shards r shards n s d line dealt (subst (λ b. AreShards b shards) open_still are) (subst (λ (m : ℕ). IsDealt m line dealt) many dealt_is) room at same serves in
    (subst (λ b. AreShards b (set shards dealt.place s)) (sym is) done.0, subst (λ h. IfOk r (λ a. Serves h n line (reply_of a) (joined (hosts_of (set shards dealt.place s))))) view done.1)

pub vain_served : {E : Type 0} (r : Result (Option Answer) E) (shards : List Shard) (n : ℕ) (line : Option Bytes) (l : Live) (lost : Bool) → AreShards lost shards → lost ≡ false → 4096 ≤ networks_of_all (hosts_of shards)
    → joined (hosts_of shards) ≡ l → IfOk r (λ a. IsAnsweredInVain n line (reply_of a)) → IfOk r (λ a. Serves l n line (reply_of a) l)
vain_served r shards n line l lost are open_still full view vain =
    map_ok r (λ a in_vain_too. subst (λ h. Serves h n line (reply_of a) h) view (in_vain shards n line (reply_of a) (subst (λ b. AreShards b shards) open_still are) full in_vain_too)) vain

pub room_left : (declares : Bool) (full : Bool) (n : ℕ) → full ≡ not (nat_lt n 4096) → (not declares || not full) ≡ true → declares ≡ true → n < 4096
room_left declares full n is has declared = (Decides-ltb n 4096).0 (by declares full (nat_lt n 4096) is has declared)
  where
    by : (d f b : Bool) → f ≡ not b → (not d || not f) ≡ true → d ≡ true → b ≡ true
    by true true true is has declared = absurd (cc)
    by true true false is has declared = absurd (cc)
    by true false true is has declared = refl
    by true false false is has declared = absurd (cc)
    by false f b is has declared = absurd (cc)

pub no_room_left : (declares : Bool) (full : Bool) (n : ℕ) → full ≡ not (nat_lt n 4096) → (not declares || not full) ≡ false → (declares ≡ true) × (4096 ≤ n)
no_room_left declares full n is none = let both = by declares full (nat_lt n 4096) is none in (both.0, ltb-false n 4096 both.1)
  where
    by : (d f b : Bool) → f ≡ not b → (not d || not f) ≡ false → (d ≡ true) × (b ≡ false)
    by true true true is none = absurd (cc)
    by true true false is none = (refl, refl)
    by true false b is none = absurd (cc)
    by false f b is none = absurd (cc)

-- ---- lines that are dealt
pub as_long : (a b : List Shard) → hosts_of a ≡ hosts_of b → length a ≡ length b
as_long a b same = sym (as-many a) ∙ ap length same ∙ as-many b

pub batch_then : (old worked gathered rested : List Shard) (n : ℕ) (lines : List (Option Bytes)) (places : List ℕ) (answers : List LineReply) → AreShards false old → length worked ≡ length old → ArePlaced (length old) lines places
    → ((k : ℕ) (d : Shard) → k < length old → AreOwnAnswered k (get_or old k d).host n lines places (map reply_of (get_or worked k d).answers.items) (get_or worked k d).host)
    → AreGathered places (waiting_answers worked) answers → hosts_of gathered ≡ hosts_of worked → hosts_of rested ≡ hosts_of gathered → AreBatchAnswered old n lines answers rested
batch_then old worked gathered rested n lines places answers are long placed own gathers one two =
    subst (λ hs. (t : Live) × AreAnswered Serves (joined (hosts_of old)) n lines answers t × (length answers ≡ length lines → (t ≡ joined hs) × AreParts (joined (hosts_of old)).bytes hs)) (sym (two ∙ one))
    (batch_answered old worked n lines places answers are long placed own gathers)

-- what was written to the places of a list that is as long is the list
pub written : (xs ys : List Shard) (n : ℕ) → n ≡ length ys → length xs ≡ length ys → take n (xs ++ drop (length xs) ys) ≡ xs
written xs ys n long same =
    ap (λ (zs : List Shard). take n (xs ++ zs)) (drop_all (length xs) ys (omega (arith, same))) ∙ ap (take n) (append-nil xs) ∙ take_all n xs (omega (arith, long, same))

pub batch_shards : (old new : List Shard) (n : ℕ) (lines : List (Option Bytes)) (answers : List LineReply) (lost : Bool) → 0 < length old → length new ≡ length old → All (λ (s : Shard). s.answers.items ≡ []) new
    → AreBatchAnswered old n lines answers new → lost ≡ nat_lt (length answers) (length lines) → AreShards lost new
batch_shards old new n lines answers lost some long idle answered is = record {
  some = omega (arith, some, long);
  idle = idle;
  parts = λ kept.
      let few = few_answers Serves (joined (hosts_of old)) answered.0 n lines answers answered.1 in
      let all : length answers ≡ length lines = omega (arith, few, ltb-false (length answers) (length lines) (sym is ∙ kept)) in
      let are = (answered.2 all).1 in
      subst (λ b. AreParts b (hosts_of new)) (sym (same-bytes (joined (hosts_of old)).bytes (hosts_of new) are)) are;
}

-- no line was answered
pub none_answered : (old new : List Shard) (n : ℕ) (lines : List HeldLine) (answers : List (Option Answer)) → 0 < length lines → answers ≡ [] → AreBatchAnswered old n (map given_of lines) (map reply_of answers) new
none_answered old new n lines answers some none =
    subst (λ as_told. AreBatchAnswered old n (map given_of lines) (map reply_of as_told) new) (sym none) (joined (hosts_of old), refl, λ all. absurd (omega (arith, some, all, length-map lines given_of)))

-- ---- lines that were answered in two parts
-- the first answers are those of the first lines
pub answered_so_far : (s t : Live) (n : ℕ) (lines : List (Option Bytes)) (answers left : List LineReply) → AreAnswered Serves s n lines (answers ++ left) t → (u : Live) × AreAnswered Serves s n lines answers u
answered_so_far s t n lines [] left are = (s, refl)
answered_so_far s t n [] (a ∷ answers) left are = absurd are
answered_so_far s t n (x ∷ lines) (a ∷ answers) left are = let on = answered_so_far are.0 t (n + 1) lines answers left are.2 in (on.0, (are.0, are.1, on.1))

pub answered_both : (s t u : Live) (n m : ℕ) (xs ys : List (Option Bytes)) (one other : List LineReply) → AreAnswered Serves s n xs one t → length one ≡ length xs → m ≡ n + length xs
    → AreAnswered Serves t m ys other u → AreAnswered Serves s n (xs ++ ys) (one ++ other) u
answered_both s t u n m [] ys [] other are all at more = subst (λ (j : ℕ). AreAnswered Serves s j ys other u) (at ∙ omega arith) (subst (λ l. AreAnswered Serves l m ys other u) are more)
answered_both s t u n m [] ys (a ∷ one) other are all at more = absurd are
answered_both s t u n m (x ∷ xs) ys [] other are all at more = absurd (omega (arith, all))
answered_both s t u n m (x ∷ xs) ys (a ∷ one) other are all at more = (are.0, are.1, answered_both are.0 t u (n + 1) m xs ys one other are.2 (omega (arith, all)) (at ∙ omega arith) more)

pub answered_parts : (s t u : Live) (c k : ℕ) (hs first others : List HeldLine) (one other : List (Option Answer)) → first ≡ take k hs → others ≡ drop k hs → k ≤ length hs → length one ≡ k
    → AreAnswered Serves s (c + 1) (map given_of first) (map reply_of one) t → AreAnswered Serves t (c + k + 1) (map given_of others) (map reply_of other) u
    → AreAnswered Serves s (c + 1) (map given_of hs) (map reply_of (one ++ other)) u
answered_parts s t u c k hs first others one other front back within long are more =
    let many : length (map given_of first) ≡ k = length-map first given_of ∙ ap length front ∙ length-take k hs ∙ omega (arith, within) in
    let whole : map given_of first ++ map given_of others ≡ map given_of hs = sym (map-append given_of first others) ∙ ap (map given_of) ((λ i. front i ++ back i) ∙ take-append-drop k hs) in
    subst (λ ls. AreAnswered Serves s (c + 1) ls (map reply_of (one ++ other)) u) whole
    (subst (λ as_told. AreAnswered Serves s (c + 1) (map given_of first ++ map given_of others) as_told u) (sym (map-append reply_of one other))
    (answered_both s t u (c + 1) (c + k + 1) (map given_of first) (map given_of others) (map reply_of one) (map reply_of other) are (length-map one reply_of ∙ long ∙ sym many) (omega (arith, many)) more))

-- the first lines were all answered, and then the others
pub answered_then : (s mid u : Live) (c k : ℕ) (hs first others : List HeldLine) (one other : List (Option Answer)) → first ≡ take k hs → others ≡ drop k hs → k ≤ length hs → k ≤ length one
    → ((t : Live) × AreAnswered Serves s (c + 1) (map given_of first) (map reply_of one) t × (length one ≡ length first → t ≡ mid)) → AreAnswered Serves mid (c + k + 1) (map given_of others) (map reply_of other) u
    → AreAnswered Serves s (c + 1) (map given_of hs) (map reply_of (one ++ other)) u
answered_then s mid u c k hs first others one other front back within enough (t, are, then) more =
    let many : length first ≡ k = ap length front ∙ length-take k hs ∙ omega (arith, within) in
    let few = few_answers Serves s t (c + 1) (map given_of first) (map reply_of one) are in
    let long : length one ≡ k = omega (arith, few, enough, many, length-map one reply_of, length-map first given_of) in
    answered_parts s t u c k hs first others one other front back within long are (subst (λ v. AreAnswered Serves v (c + k + 1) (map given_of others) (map reply_of other) u) (sym (then (long ∙ sym many))) more)

-- so far as a part of the answers goes
pub answered_some : (s u : Live) (n : ℕ) (hs : List HeldLine) (one left all : List (Option Answer)) → one ++ left ≡ all → AreAnswered Serves s n (map given_of hs) (map reply_of all) u
    → (t : Live) × AreAnswered Serves s n (map given_of hs) (map reply_of one) t
answered_some s u n hs one left all is are =
    answered_so_far s u n (map given_of hs) (map reply_of one) (map reply_of left)
    (subst (λ as_told. AreAnswered Serves s n (map given_of hs) as_told u) (map-append reply_of one left) (subst (λ xs. AreAnswered Serves s n (map given_of hs) (map reply_of xs) u) (sym is) are))

-- ---- a host that answered lines
pub nothing_answered : (l : Live) (n : ℕ) (lines : List HeldLine) (answers : List (Option Answer)) → answers ≡ [] → AreAnsweredUntil l n (map given_of lines) (map reply_of answers) l
nothing_answered l n lines answers none = subst (λ as_told. AreAnsweredUntil l n (map given_of lines) (map reply_of as_told) l) (sym none) (l, refl, λ all. refl)

pub together_answered : (old new : List Shard) (l : Live) (n : ℕ) (lines : List (Option Bytes)) (answers : List LineReply) → joined (hosts_of old) ≡ l → AreBatchAnswered old n lines answers new
    → AreAnsweredUntil l n lines answers (joined (hosts_of new))
together_answered old new l n lines answers view answered =
    subst (λ h. AreAnsweredUntil h n lines answers (joined (hosts_of new))) view (answered.0, answered.1, λ all. (answered.2 all).0)
