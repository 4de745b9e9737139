-- Lines that are taken and declare a network are taken once they are lowered, and declare as much less of it.
use Rattle.std.specs.Prelude.{◌≡◌, ◌+◌, ◌-◌, ◌^◌, ◌&&◌, ◌||◌, ◌++◌, ◌∷◌, [], not, ℕ, Bool, true, false, List, codes, length, map, nat_lt, is_some, Option, Some, None, option_map, if◌then◌else◌}
use Rattle.std.specs.List.{join_with_byte}
use Rattle.std.specs.declared.cmp.Ordering.{Ordering}
use Rattle.std.specs.Ordering.{match_ordering, nat_cmp}
use Rattle.std.specs.BTreeMap.{insert_entry, is_at}
use Rattle.std.specs.Map.{lookup, set_value}
use Rattle.std.proofs.Common.{◌∙◌, Less, Equal, Greater, refl, sym, ap, subst, cond, inl, inr, arith, append-nil}
use Rattle.std.proofs.lemmas.Bool.Decides.{nat_tests}
use Rattle.scp_types.specs.Trees.{all_differ}
use Rattle.scp_types.specs.declared.event.Event.{Event}
use Rattle.scp_types.specs.declared.event.Event.TheVariants as event
use Rattle.scp_types.specs.declared.event.Refusal.{Refusal}
use Rattle.scp_spec.specs.Rosters.{Shares}
use Rattle.host_config.specs.Faults.{first_fault, is_too_large}
use Rattle.host_config.specs.declared.error.ConfigError.{ConfigError}
use Rattle.host_config.specs.declared.error.ConfigError.TheVariants.{RosterTooLong, RosterTwice, ShareTooLarge}
use Rattle.host_network.specs.Standing.{Machine}
use Rattle.line_script.specs.Script.{Bytes, IsSkipped, is_no_record}
use Rattle.live_feed.specs.Lasting.{lowered}
use Rattle.live_feed.specs.Served.{LineReply, ServesAll, journal_line}
use Rattle.live_feed.specs.Served.ServesAll.{next, none}
use Rattle.live_feed.specs.WholeLines.{given}
use Rattle.live_feed.specs.declared.answering.Deed.{Deed}
use Rattle.live_feed.specs.declared.answering.Deed.TheVariants as deed
use Rattle.live_feed.specs.declared.answering.Done.{Done}
use Rattle.live_feed.specs.declared.answering.Drawn.{Drawn}
use Rattle.line_request.specs.Asking.{IsAskedOf}
use Rattle.line_request.specs.Outlines.{IsRevised, Outlined, Waiting, bare_outline, waiting_at, waiting_set, with_node, with_roster}
use Rattle.line_request.specs.Preparing.{Prepares}
use Rattle.line_request.specs.Taking.{is_roster, takes_node, takes_roster}
use Rattle.line_request.specs.declared.ask.Ask.{Ask}
use Rattle.line_request.specs.declared.ask.Ask.TheVariants as ask
use Rattle.line_request.specs.declared.request.Declaration.{Declaration}
use Rattle.line_request.specs.declared.request.Declaration.TheVariants as declaration
use Rattle.live_host.specs.Hosts.{AreServedAt, IsAnsweredOnceBegun, IsAskAnswered, IsDeclared, IsServedAt, Live, Serves, deed_at, deed_by, deed_of, deed_of_all, drawn, live_at, one_line, slot_of_answers, takes_declaration}
use Rattle.live_host.specs.declared.block.Closing.TheVariants as closing
use Rattle.live_host.specs.Lowering.{AllDeclare, AreDeclared, AsksToDeclare, DeclarationsAreServed, LoweredDeclarationsDeclareLess, RunsDeclare, declared_of, less_declared, less_live, less_outline, less_reserved, less_shares, less_waiting, taken_block}
use Rattle.live_host.specs.Lowering.AreDeclared.{next_line, none_left}
use Rattle.live_host.specs.Futures.{behind_number, behind_numbers}
use Rattle.live_host.specs.Blocks.{closing_line}
use Rattle.live_host.proofs.ApartRuns.{is-kept}
use Rattle.live_host.proofs.LoweringAsked.{IsScriptOf, VerbWord, asks-script, has-parts, its-fields-served, its-word, kind_of}
use Rattle.live_host.proofs.LoweringLengths.{lowered_lines_are_no_longer}
use Rattle.live_host.proofs.LoweringRosters.{lowered_lines_declare_less}

-- ---- entries that are changed
abbrev each : {X Y : Type 0} → (X → Y) → List (ℕ × X) → List (ℕ × Y)
each {X} f es = map (λ (e : ℕ × X). (e.0, f e.1)) es

each-found : {X Y : Type 0} (f : X → Y) (test : ℕ → Bool) (es : List (ℕ × X))
    → lookup test (each f es) ≡ option_map f (lookup test es)
each-found f test [] = refl
each-found {X} {Y} f test (e ∷ es) = step (test e.0) (each-found f test es)
  where
    step : (b : Bool) → lookup test (each f es) ≡ option_map f (lookup test es)
        → cond b (Some (f e.1)) (lookup test (each f es)) ≡ option_map f (cond b (Some e.1) (lookup test es))
    step true others = refl
    step false others = others

each-long : {X Y : Type 0} (f : X → Y) (es : List (ℕ × X)) → length (each f es) ≡ length es
each-long f [] = refl
each-long f (e ∷ es) = omega (arith, each-long f es)

each-inserted : {X Y : Type 0} (f : X → Y) (es : List (ℕ × X)) (g : ℕ) (x : X)
    → insert_entry nat_cmp (each f es) g (f x) ≡ each f (insert_entry nat_cmp es g x)
each-inserted f [] g x = refl
each-inserted {X} {Y} f (e ∷ es) g x = step (nat_cmp g e.0) (each-inserted f es g x)
  where
    step : (o : Ordering) → insert_entry nat_cmp (each f es) g (f x) ≡ each f (insert_entry nat_cmp es g x)
        → match_ordering o ((g, f x) ∷ each f (e ∷ es)) ((e.0, f x) ∷ each f es)
        ((e.0, f e.1) ∷ insert_entry nat_cmp (each f es) g (f x))
        ≡ each f (match_ordering o ((g, x) ∷ e ∷ es) ((e.0, x) ∷ es) (e ∷ insert_entry nat_cmp es g x))
    step Less others = refl
    step Equal others = refl
    step Greater others = ap (λ rest. (e.0, f e.1) ∷ rest) others

each-set : {X Y : Type 0} (f : X → Y) (test : ℕ → Bool) (es : List (ℕ × X)) (x : X)
    → set_value test (each f es) (f x) ≡ each f (set_value test es x)
each-set f test [] x = refl
each-set {X} {Y} f test (e ∷ es) x = step (test e.0) (each-set f test es x)
  where
    step : (b : Bool) → set_value test (each f es) (f x) ≡ each f (set_value test es x)
        → cond b ((e.0, f x) ∷ each f es) ((e.0, f e.1) ∷ set_value test (each f es) (f x))
        ≡ each f (cond b ((e.0, x) ∷ es) (e ∷ set_value test es x))
    step true others = refl
    step false others = ap (λ rest. (e.0, f e.1) ∷ rest) others

-- ---- declarations
waits-less : (d : Drawn) (ws : Waiting) (g : ℕ)
    → waiting_at (less_waiting d ws) g ≡ option_map (less_outline d) (waiting_at ws g)
waits-less d ws g = each-found (less_outline d) (is_at (nat_cmp g)) ws

both-true : (a b : Bool) → (a && b) ≡ true → (a ≡ true) × (b ≡ true)
both-true true b e = (refl, e)
both-true false b e = cc

joined-true : (a b : Bool) → a ≡ true → b ≡ true → (a && b) ≡ true
joined-true true b e h = h
joined-true false b e h = cc

less-fits : (d : Drawn) (s : Shares) → is_too_large s ≡ false → is_too_large (less_shares d s) ≡ false
less-fits d s e =
    step (nat_lt (2 ^ 40) s.own || nat_lt (2 ^ 40) s.pair || nat_lt (2 ^ 40) s.bytes) (nat_lt (2 ^ 40) s.opens) refl e
  where
    step : (others opens : Bool) → nat_lt (2 ^ 40) s.opens ≡ opens → (others || opens) ≡ false
        → (others || nat_lt (2 ^ 40) (s.opens - d.opens)) ≡ false
    step true opens is e = cc
    step false true is e = cc
    step false false is e = grind (arith, nat_tests)

-- what is tested of a roster, by how the tests come out
abbrev tests_of : Bool → Bool → Bool → List (Bool × ConfigError)
tests_of twice long large = (twice, RosterTwice) ∷ (long, RosterTooLong) ∷ (large, ShareTooLarge) ∷ []

roster-less : (d : Drawn) (names : List ℕ) (s : Shares) → is_roster names s ≡ true
    → is_roster names (less_shares d s) ≡ true
roster-less d names s takes_declaration =
    step (not (all_differ names)) (nat_lt 1024 (length names)) (is_too_large s) (is_too_large (less_shares d s))
    (less-fits d s) takes_declaration
  where
    step : (twice long large after : Bool) → (large ≡ false → after ≡ false)
        → not (is_some (first_fault (tests_of twice long large))) ≡ true
        → not (is_some (first_fault (tests_of twice long after))) ≡ true
    step true long large after less e = cc
    step false true large after less e = cc
    step false false true after less e = cc
    step false false false after less e = rw (less refl) refl

waits-alike : (d : Drawn) (o : Option Outlined) → is_some (option_map (less_outline d) o) ≡ is_some o
waits-alike d None = refl
waits-alike d (Some x) = refl

node-taken : (d : Drawn) (o : Option Outlined) (u : ℕ) → takes_node (option_map (less_outline d) o) u ≡ takes_node o u
node-taken d None u = refl
node-taken d (Some x) u = refl

roster-taken : (d : Drawn) (o : Option Outlined) (names : List ℕ) (s : Shares) → takes_roster o names s ≡ true
    → takes_roster (option_map (less_outline d) o) names (less_shares d s) ≡ true
roster-taken d None names s is = cc
roster-taken d (Some x) names s is =
    let both = both-true (not (is_some x.roster)) (is_roster names s) is in
    joined-true (not (is_some (option_map (less_reserved d) x.roster))) (is_roster names (less_shares d s))
    (ap not (same x.roster) ∙ both.0) (roster-less d names s both.1)
  where
    same : (r : Option (List ℕ × Shares)) → is_some (option_map (less_reserved d) r) ≡ is_some r
    same None = refl
    same (Some r) = refl

-- of so many that wait: the network of a number does not run, and fewer are declared than may be
abbrev runs-and-fits : Live → ℕ → ℕ → Bool
runs-and-fits l g n = not (is_some (live_at l g)) && nat_lt (n + length l.running) 4096

takes-less : (d : Drawn) (l : Live) (g : ℕ) (x : Declaration) → takes_declaration l g x ≡ true
    → takes_declaration (less_live d l) g (less_declared d x) ≡ true
takes-less d l g (declaration.Net b) is =
    ap (λ o. not (is_some o) && runs-and-fits l g (length (less_waiting d l.waiting))) (waits-less d l.waiting g)
    ∙ ap (λ b. not b && runs-and-fits l g (length (less_waiting d l.waiting))) (waits-alike d (waiting_at l.waiting g))
    ∙ ap (λ n. not (is_some (waiting_at l.waiting g)) && runs-and-fits l g n) (each-long (less_outline d) l.waiting) ∙ is
takes-less d l g (declaration.Node u q) is =
    ap (λ o. takes_node o u) (waits-less d l.waiting g) ∙ node-taken d (waiting_at l.waiting g) u ∙ is
takes-less d l g (declaration.Roster r) is =
    ap (λ o. takes_roster o r.names.items (less_shares d r.shares)) (waits-less d l.waiting g)
    ∙ roster-taken d (waiting_at l.waiting g) r.names.items r.shares is

revised-less : (d : Drawn) (g : ℕ) (change after : Outlined → Outlined) (old new : Waiting)
    → ((o : Outlined) → less_outline d (change o) ≡ after (less_outline d o)) → IsRevised g change old new
    → IsRevised g after (less_waiting d old) (less_waiting d new)
revised-less d g change after old new same (o, waits, is) = (
  less_outline d o,
  waits-less d old g ∙ ap (option_map (less_outline d)) waits,
  ap (less_waiting d) is ∙ sym (each-set (less_outline d) (is_at (nat_cmp g)) old (change o))
      ∙ ap (waiting_set (less_waiting d old) g) (same o),
)

prepares-less : (d : Drawn) (g : ℕ) (x : Declaration) (old new : Waiting) → Prepares g x old new
    → Prepares g (less_declared d x) (less_waiting d old) (less_waiting d new)
prepares-less d g (declaration.Net b) old new (waits, is) = (
  waits-less d old g ∙ ap (option_map (less_outline d)) waits,
  ap (less_waiting d) is ∙ sym (each-inserted (less_outline d) old g (bare_outline b)),
)
prepares-less d g (declaration.Node u q) old new revised =
    revised-less d g (λ o. with_node o u q) (λ o. with_node o u q) old new (λ o. refl) revised
prepares-less d g (declaration.Roster r) old new revised =
    revised-less d g (λ o. with_roster o r.names.items r.shares)
    (λ o. with_roster o r.names.items (less_shares d r.shares)) old new (λ o. refl) revised

declared-less : (d : Drawn) (g : ℕ) (x : Declaration) (old new : Live) → IsDeclared g x old true new
    → IsDeclared g (less_declared d x) (less_live d old) true (less_live d new)
declared-less d g x old new (taken, prepares, running, bytes) =
    (takes-less d old g x taken, prepares-less d g x old.waiting new.waiting prepares, running, bytes)

-- ---- what a line that declared something asked for
-- it was this declaration of the network, and it was taken
pub record WasDeclared (g n : ℕ) (asked : Option (ℕ × Ask)) (old new : Live) (a : LineReply) : Type 0 where
  pub what : Declaration
  pub asks : asked ≡ Some (g, ask.Declare what)
  pub declared : IsDeclared g what old true new
  pub is : a ≡ one_line n closing.Taken (declared_of g)

-- the same of a line, whatever it asked for
pub record WasOfLine (g n : ℕ) (old new : Live) (a : LineReply) : Type 0 where
  pub what : Declaration
  pub declared : IsDeclared g what old true new
  pub is : a ≡ one_line n closing.Taken (declared_of g)

nothing-done : {X : Type 0} (g : ℕ) (a : LineReply) → a.done ≡ None → a.done ≡ declared_of g → X
nothing-done g a nothing some = let same : ◌≡◌ {A = Option Done} None (declared_of g) = sym nothing ∙ some in cc

done-of : (g h : ℕ) (b : Deed) → ◌≡◌ {A = Option Done} (Some (record { network = h; deed = b })) (declared_of g)
    → (h ≡ g) × (b ≡ deed.Declared)
done-of g h b e =
    let same : ◌≡◌ {A = Done} (record { network = h; deed = b }) (record { network = g; deed = deed.Declared }) = cc in
    (ap (λ x. x.network) same, ap (λ x. x.deed) same)

not-by-event : (e : Event) (i : ℕ) (d : Drawn) → deed_at e i d ≡ deed.Declared → ⊥
not-by-event (event.OpenSlot j) i d is = cc
not-by-event (event.CloseSlot j) i d is = cc
not-by-event e i d is = cc

not-by-serving : (r : Option Refusal) (e : Event) (i : ℕ) (d : Drawn) → deed_by r e i d ≡ deed.Declared → ⊥
not-by-serving None e i d is = not-by-event e i d is
not-by-serving (Some r) e i d is = cc

not-by-all : (o : Option ℕ) (d : Drawn) → deed_of_all o d ≡ deed.Declared → ⊥
not-by-all None d is = cc
not-by-all (Some i) d is = cc

not-served : (runs : Option Machine) (g n h : ℕ) (e : Event) (old new : Live) (a : LineReply)
    → IsServedAt runs n h e old a new → a.done ≡ declared_of g → ⊥
not-served None g n h e old new a (is, same) some = nothing-done g a (ap (λ x. x.done) is) some
not-served (Some m) g n h e old new a (after, s, served, now, is) some =
    not-by-serving s.refused e s.slot (drawn m after)
    (done-of g h (deed_of e s (drawn m after)) (sym (ap (λ x. x.done) is) ∙ some)).1

not-served-all : (runs : Option Machine) (g n h : ℕ) (bytes : Bytes) (old new : Live) (a : LineReply)
    → AreServedAt runs n h bytes old a new → a.done ≡ declared_of g → ⊥
not-served-all None g n h bytes old new a (is, same) some = nothing-done g a (ap (λ x. x.done) is) some
not-served-all (Some m) g n h bytes old new a (after, answers, served, now, is) some =
    not-by-all (slot_of_answers answers) (drawn m after)
    (done-of g h (deed_of_all (slot_of_answers answers) (drawn m after)) (sym (ap (λ x. x.done) is) ∙ some)).1

not-once-begun : (g n h : ℕ) (answers : Live → LineReply → Live → Type 0)
    → ((now new : Live) (a : LineReply) → answers now a new → a.done ≡ declared_of g → ⊥) → (old new : Live) (a : LineReply)
    → IsAnsweredOnceBegun n h answers old a new → a.done ≡ declared_of g → ⊥
not-once-begun g n h answers never old new a (true, now, begun, answered) some = never now new a answered some
not-once-begun g n h answers never old new a (false, now, begun, bad) some =
    nothing-done g a (ap (λ x. x.done) bad.0) some

pub was-declared : (g n h : ℕ) (asked : Ask) (old new : Live) (a : LineReply) → IsAskAnswered n h asked old a new
    → a.done ≡ declared_of g → WasDeclared g n (Some (h, asked)) old new a
was-declared g n h (ask.Declare x) old new a (true, declared, is) some =
    let same : h ≡ g = (done-of g h deed.Declared (sym (ap (λ r. r.done) is) ∙ some)).0 in record {
      what = x;
      asks = ap (λ k. Some (k, ask.Declare x)) same;
      declared = subst (λ k. IsDeclared k x old true new) same declared;
      is = is ∙ ap (λ k. one_line n closing.Taken (declared_of k)) same;
    }
was-declared g n h (ask.Declare x) old new a (false, declared, is) some =
    nothing-done g a (ap (λ r. r.done) is) some
was-declared g n h (ask.Serve e) old new a answer some =
    absurd (not-once-begun g n h _ (λ now t b (runs, at, served) is. not-served runs g n h e now t b served is) old new a answer some)
was-declared g n h (ask.ForAll bytes) old new a answer some =
    absurd (not-once-begun g n h _ (λ now t b (runs, at, served) is. not-served-all runs g n h bytes now t b served is) old new a answer some)
was-declared g n h ask.Left old new a answer some = nothing-done g a answer.1 some
was-declared g n h (ask.Show i u) old new a answer some = nothing-done g a answer.1 some
was-declared g n h ask.Drop old new a (true, dropped, is) some =
    let same = (done-of g h deed.Dropped (sym (ap (λ r. r.done) is) ∙ some)).1 in cc
was-declared g n h ask.Drop old new a (false, dropped, is) some = nothing-done g a (ap (λ r. r.done) is) some

-- ---- lines that are not skipped
no-comment : (x : Declaration) (word number : Bytes) (rest : List Bytes) → VerbWord (kind_of x) word
    → is_no_record (join_with_byte 32 (word ∷ number ∷ rest)) ≡ false
no-comment (declaration.Net b) word number rest is =
    ap (λ w. is_no_record (join_with_byte 32 (w ∷ number ∷ rest))) is
no-comment (declaration.Node u q) word number rest is =
    ap (λ w. is_no_record (join_with_byte 32 (w ∷ number ∷ rest))) is
no-comment (declaration.Roster r) word number rest is =
    ap (λ w. is_no_record (join_with_byte 32 (w ∷ number ∷ rest))) is

declares-something : (line : Bytes) (g : ℕ) (x : Declaration) → AsksToDeclare line g x → IsSkipped line → ⊥
declares-something line g x (fields, are, asked) skipped = step (asks-script g x fields asked)
  where
    no : (word number : Bytes) (rest : List Bytes) → VerbWord (kind_of x) word → fields ≡ word ∷ number ∷ rest → ⊥
    no word number rest is whole =
        let same : false ≡ true =
        sym (no-comment x word number rest is) ∙ ap (λ fs. is_no_record (join_with_byte 32 fs)) (sym whole)
        ∙ ap is_no_record are.0 ∙ skipped.0 in
        cc

    step : IsScriptOf g x fields → ⊥
    step (inl (before, net, e, h)) =
        let parts = has-parts g x before h in
        no parts.word parts.number (parts.rest ++ codes "served" ∷ []) (its-word g x parts)
        (its-fields-served g x fields parts parts.word refl e)
    step (inr (other, h)) =
        let parts = has-parts g x fields h in
        no parts.word parts.number parts.rest (its-word g x parts) parts.are

-- ---- one line
-- the lines that are declared as so much less
abbrev IsServedWithLess : Drawn → ℕ → ℕ → Live → Bytes → Live → Type 0
IsServedWithLess d g k old line new =
    Serves (less_live d old) k (Some (lowered d line)) (one_line k closing.Taken (declared_of g)) (less_live d new)

asks-less : (d : Drawn) (g n k : ℕ) (old new : Live) (line : Bytes) (a : LineReply) → Serves old n (Some line) a new
    → a.done ≡ declared_of g → IsServedWithLess d g k old line new
asks-less d g n k old new line a (inl skipped) some = nothing-done g a (ap (λ r. r.done) skipped.1) some
asks-less d g n k old new line a (inr (runs, inl bad)) some = nothing-done g a (ap (λ r. r.done) bad.1.0) some
asks-less d g n k old new line a (inr (runs, inr (fields, are, (None, asked, bad)))) some =
    nothing-done g a (ap (λ r. r.done) bad.0) some
asks-less d g n k old new line a (inr (runs, inr (fields, are, (Some (h, what), asked, answer)))) some =
    let was = was-declared g n h what old new a answer some in
    let asks : IsAskedOf fields (Some (g, ask.Declare was.what)) = subst (IsAskedOf fields) was.asks asked in
    let less = lowered_lines_declare_less d line g was.what (fields, are, asks) in
    inr (
      declares-something (lowered d line) g (less_declared d was.what) less,
      inr (
        less.0,
        less.1,
        (
          Some (g, ask.Declare (less_declared d was.what)),
          less.2,
          (true, declared-less d g was.what old new was.declared, refl),
        ),
      ),
    )

given-less : (longest : ℕ) (d : Drawn) (g n k : ℕ) (old new : Live) (line : Bytes) (a : LineReply)
    → Serves old n (given longest line) a new → a.done ≡ declared_of g
    → Serves (less_live d old) k (given longest (lowered d line)) (one_line k closing.Taken (declared_of g)) (less_live d new)
given-less longest d g n k old new line a serves some =
    step (nat_lt longest (length line)) refl serves
  where
    fits : nat_lt longest (length line) ≡ false → nat_lt longest (length (lowered d line)) ≡ false
    fits is = let shorter = lowered_lines_are_no_longer d line in grind (arith, nat_tests)

    step : (long : Bool) → nat_lt longest (length line) ≡ long → Serves old n (if long then None else Some line) a new
        → Serves (less_live d old) k (given longest (lowered d line)) (one_line k closing.Taken (declared_of g)) (less_live d new)
    step true is bad = nothing-done g a (ap (λ r. r.done) bad.0) some
    step false is serves =
        subst (λ b. Serves (less_live d old) k (if b then None else Some (lowered d line)) (one_line k closing.Taken (declared_of g)) (less_live d new))
        (sym (fits is)) (asks-less d g n k old new line a serves some)

-- what a line declared
pub declared-by : (longest g n : ℕ) (old new : Live) (line : Bytes) (a : LineReply) → Serves old n (given longest line) a new
    → a.done ≡ declared_of g → WasOfLine g n old new a
declared-by longest g n old new line a serves some = step (nat_lt longest (length line)) serves
  where
    step : (long : Bool) → Serves old n (if long then None else Some line) a new → WasOfLine g n old new a
    step true bad = nothing-done g a (ap (λ r. r.done) bad.0) some
    step false (inl skipped) = nothing-done g a (ap (λ r. r.done) skipped.1) some
    step false (inr (runs, inl bad)) = nothing-done g a (ap (λ r. r.done) bad.1.0) some
    step false (inr (runs, inr (fields, are, (None, asked, bad)))) = nothing-done g a (ap (λ r. r.done) bad.0) some
    step false (inr (runs, inr (fields, are, (Some (h, what), asked, answer)))) =
        let was = was-declared g n h what old new a answer some in
        record { what = was.what; declared = was.declared; is = was.is }

-- ---- all of them
runs-less : (d : Drawn) (longest g k : ℕ) {n : ℕ} {l t : Live} {lines : List Bytes} → AreDeclared longest g l n lines t
    → AreDeclared longest g (less_live d l) k (map (lowered d) lines) (less_live d t)
runs-less d longest g k none_left = none_left
runs-less d longest g k (next_line {s} {t = now} {n} {line} a serves some rest) =
    next_line (one_line k closing.Taken (declared_of g)) (given-less longest d g n k s now line a serves some) refl
    (runs-less d longest g (k + 1) rest)

pub lowered_declarations_declare_less : LoweredDeclarationsDeclareLess
lowered_declarations_declare_less d longest g n k l t lines run = runs-less d longest g k run

-- a run of which each line did so
pub runs_declare : RunsDeclare
runs_declare longest g n l t lines journal text run all = by run all
  where
    by : {k : ℕ} {s u : Live} {more kept : List Bytes} {told : Bytes}
        (others : ServesAll Serves longest s k more kept told u) → AllDeclare g others → AreDeclared longest g s k more u
    by none all = none_left
    by (next a serves others) all = next_line a serves all.0 (by others all.1)

-- ---- what is told of them
served-all : (longest g : ℕ) {n : ℕ} {l t : Live} {lines : List Bytes} → AreDeclared longest g l n lines t
    → ServesAll Serves longest l n lines lines (behind_numbers n (map taken_block lines)) t
served-all longest g none_left = none
served-all longest g (next_line {s} {t = now} {u} {n} {line} {more} a serves some rest) =
    let others : Bytes = behind_numbers (n + 1) (map taken_block more) in
    let told : a.text ≡ behind_number n (taken_block line) =
    ap (λ r. r.text) (declared-by longest g n s now line a serves some).is ∙ sym (append-nil (closing_line n closing.Taken)) in
    subst (λ first. ServesAll Serves longest s n (line ∷ more) (first ∷ more) (behind_numbers n (map taken_block (line ∷ more))) u)
    (is-kept longest s now n line a (record { network = g; deed = deed.Declared }) serves some)
    (subst (λ text. ServesAll Serves longest s n (line ∷ more) (journal_line (given longest line) a ∷ more) (text ++ others) u)
    told (next a serves (served-all longest g rest)))

pub declarations_are_served : DeclarationsAreServed
declarations_are_served longest g n l t lines run = served-all longest g run
