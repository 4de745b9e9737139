-- What is known of a host and of the lines that last stays known with each line.
use Rattle.std.specs.Prelude.{◌≡◌, ◌⊎◌, ◌+◌, ◌≤◌, ◌<◌, ◌∷◌, [], ◌&&◌, not, filter, map, length, nat_lt, is_some, ℕ, Bool, true, false, List, Option, Some, None, if◌then◌else◌}
use Rattle.std.specs.Ordering.{nat_cmp}
use Rattle.std.specs.BTreeMap.{is_at}
use Rattle.std.proofs.Common.{◌∙◌, refl, sym, ap, subst, inl, inr, arith, map-id, true≢false}
use Rattle.line_script.specs.Script.{Bytes}
use Rattle.live_feed.specs.Lasting.{Declaration, Lines, NetworkLines, Watched, Watching, entry_at, lasting_behind, lines_after, network_after, new_network, no_lines, unwatched, with_network, without_network}
use Rattle.live_feed.specs.Served.{LineReply, ServesAll}
use Rattle.live_feed.specs.Served.ServesAll.{next, none}
use Rattle.live_feed.specs.WholeLines.{given}
use Rattle.live_feed.specs.declared.answering.Deed.{Deed}
use Rattle.live_feed.specs.declared.answering.Deed.TheVariants as deed
use Rattle.live_feed.specs.declared.answering.Done.{Done}
use Rattle.live_host.specs.Apart.{alone}
use Rattle.live_host.specs.Compacted.{AppliedLine, AreLinesKnown, AscendWithin, IsMade, IsMadeAs, NetworksAreMade, applied_behind, but_of_network, but_there, declarations_behind, declarations_of, declares_of, done_as, is_at_slot, is_of_network, of_network, pair_of}
use Rattle.live_host.specs.Hosts.{Live, Remembers, Serves, new_live}
use Rattle.live_host.proofs.ApartLines.{hosts_stay_ordered, lines_are_local, not-done, other_lines_change_nothing}
use Rattle.live_host.proofs.CompactedAsked.{what-it-asks}
use Rattle.live_host.proofs.CompactedKnown.{changed, declarations-after, each-behind, events-after, networks-ascend}
use Rattle.live_host.proofs.CompactedLists.{map-append-one, within-filtered, within-more, within-one-more}
use Rattle.live_host.proofs.CompactedRooms.{Has, alone-is-none, alone-runs, alone-waits, has-room, inserted-count, no-more, removed-count, set-count}

-- ---- counts
-- where a network is known it waits or runs
known-is-there : (longest : ℕ) (bytes : Bool) (n : ℕ) (l : Live) (lines : Lines) → AreLinesKnown longest bytes n l lines
    → (g : ℕ) → Has lines.networks g → Has l.waiting g ⊎ Has l.running g
known-is-there longest bytes n l lines known g has = by (entry_at lines.networks g) has (known.made g)
  where
    made : (named : Bool) (net : NetworkLines)
        → IsMadeAs named longest bytes g net.lost (declarations_of g lines.lasting.declarations) (of_network g known.applied)
        (alone g l)
        → Has l.waiting g ⊎ Has l.running g
    made false net is = inl (ap is_some (alone-waits g bytes l is.outlined is.is))
    made true net is = inr (ap is_some (alone-runs g bytes l is.machine is.is))

    by : (o : Option NetworkLines) → is_some o ≡ true → IsMade longest bytes g o (declarations_of g lines.lasting.declarations) (of_network g known.applied) (alone g l)
        → Has l.waiting g ⊎ Has l.running g
    by None has is = absurd (true≢false (sym has))
    by (Some net) has is = made net.is_named net is

-- a network that is not known yet has room
new-has-room : (longest : ℕ) (bytes : Bool) (n g : ℕ) (l t : Live) (lines : Lines) (line : Option Bytes) (a : LineReply)
    (d : Deed) → AreLinesKnown longest bytes n l lines → Serves l n line a t → a.done ≡ Some (done_as g d)
    → entry_at lines.networks g ≡ None → length lines.networks < 4096
new-has-room longest bytes n g l t lines line a d known serves some not_known =
    let alone_is : alone g l ≡ new_live bytes =
    subst
    (λ o. IsMade longest bytes g o (declarations_of g lines.lasting.declarations) (of_network g known.applied) (alone g l))
    not_known (known.made g) in
    let neither = alone-is-none g bytes l alone_is in
    let room = has-room n g line l t a (done_as g d) some neither.0 neither.1
    (what-it-asks n line l t a (done_as g d) serves some) in
    let few = no-more 0 lines.networks l.waiting l.running known.networks_ascend
    (known-is-there longest bytes n l lines known) in
    omega (arith, room, few)

few-behind : (n : ℕ) (text : Bytes) (g : ℕ) (d : Deed) (o : Option NetworkLines) (old : Lines)
    → length old.networks ≤ 4096 → (o ≡ None → length old.networks < 4096)
    → length (changed n text g d o old).networks ≤ 4096
few-behind n text g d o old few room = by o room d
  where
    kept : (o : Option NetworkLines) → (o ≡ None → length old.networks < 4096) → (d : Deed)
        → length (with_network o n text (done_as g d) old).networks ≤ 4096
    kept None room d =
        let count = inserted-count g old.networks (network_after n d new_network) in
        let less = room refl in omega (arith, count, less)
    kept (Some net) room d =
        let count = set-count (is_at (nat_cmp g)) old.networks (network_after n d net) in omega (arith, count, few)

    gone : (o : Option NetworkLines) → length (without_network o n text (done_as g deed.Dropped) old).networks ≤ 4096
    gone None = few
    gone (Some net) = let count = removed-count (is_at (nat_cmp g)) old.networks in omega (arith, count, few)

    by : (o : Option NetworkLines) → (o ≡ None → length old.networks < 4096) → (d : Deed)
        → length (changed n text g d o old).networks ≤ 4096
    by o room deed.Declared = kept o room deed.Declared
    by o room deed.Refused = kept o room deed.Refused
    by o room (deed.Applied i drawn) = kept o room (deed.Applied i drawn)
    by o room (deed.Closed i drawn) = kept o room (deed.Closed i drawn)
    by o room deed.Dropped = gone o

-- ---- numbers
declarations-within : (n : ℕ) (text : Bytes) (g : ℕ) (d : Deed) (ds : List (ℕ × Declaration)) → AscendWithin 0 n ds
    → AscendWithin 0 (n + 1) (declarations_behind n text g d ds)
declarations-within n text g deed.Declared ds within =
    within-one-more 0 n ds (record { network = g; text = text }) within
declarations-within n text g deed.Refused ds within = within-more 0 n ds within
declarations-within n text g (deed.Applied i drawn) ds within = within-more 0 n ds within
declarations-within n text g (deed.Closed i drawn) ds within = within-more 0 n ds within
declarations-within n text g deed.Dropped ds within =
    within-more 0 n (filter (λ e. not (declares_of g e)) ds)
    (subst (AscendWithin 0 n) (map-id (filter (λ e. not (declares_of g e)) ds))
    (within-filtered (λ e. e) (λ e. not (declares_of g e)) 0 n ds (subst (AscendWithin 0 n) (sym (map-id ds)) within)))

applied-within : (n : ℕ) (text : Bytes) (g : ℕ) (d : Deed) (es : List AppliedLine) → AscendWithin 0 n (map pair_of es)
    → AscendWithin 0 (n + 1) (map pair_of (applied_behind n text g d es))
applied-within n text g deed.Declared es within = within-more 0 n (map pair_of es) within
applied-within n text g deed.Refused es within = within-more 0 n (map pair_of es) within
applied-within n text g (deed.Applied i drawn) es within =
    subst (AscendWithin 0 (n + 1))
    (sym (map-append-one pair_of es (record { number = n; network = g; text = text; slot = i; drawn = drawn })))
    (within-one-more 0 n (map pair_of es) text within)
applied-within n text g (deed.Closed i drawn) es within =
    within-more 0 n (map pair_of (but_there g i es))
    (within-filtered pair_of (λ e. not (is_of_network g e && is_at_slot i e)) 0 n es within)
applied-within n text g deed.Dropped es within =
    within-more 0 n (map pair_of (but_of_network g es)) (within-filtered pair_of (λ e. not (is_of_network g e)) 0 n es within)

-- ---- one line
-- a line that did something
known-behind : NetworksAreMade → (longest : ℕ) (bytes : Bool) (n : ℕ) (line text : Bytes) (g : ℕ) (d : Deed) (l t : Live)
    (lines : Lines) → AreLinesKnown longest bytes n l lines
    → Remembers l n (given longest line) (record { text = text; done = Some (done_as g d) }) t
    → AreLinesKnown longest bytes (n + 1) t (lines_after n line (done_as g d) lines)
known-behind made longest bytes n line text g d l t lines known (serves, tells) =
    let a : LineReply = record { text = text; done = Some (done_as g d) } in
    let local = lines_are_local l t n (given longest line) a (done_as g d) known.ordered serves refl in
    let declares = declarations-after n line g d (entry_at lines.networks g) lines (of_network g known.applied)
    known.declarations_ascend (known.noted g) in
    let events = events-after n line g d (entry_at lines.networks g) lines
    (declarations_of g lines.lasting.declarations) known.applied known.events known.events_ascend
    (known.noted g) in
    let each = each-behind made longest bytes n line text g d l t lines known (local.0, tells) local.1 in
    record {
      applied = applied_behind n line g d known.applied;
      events = events;
      events_ascend = subst (AscendWithin 0 (n + 1)) (sym events)
          (applied-within n line g d known.applied (subst (AscendWithin 0 n) known.events known.events_ascend));
      declarations_ascend = subst (AscendWithin 0 (n + 1)) (sym declares)
          (declarations-within n line g d lines.lasting.declarations known.declarations_ascend);
      networks_ascend = networks-ascend n line g d lines known.networks_ascend;
      ordered = hosts_stay_ordered l t n (given longest line) a known.ordered serves;
      few = few-behind n line g d (entry_at lines.networks g) lines known.few
          (new-has-room longest bytes n g l t lines (given longest line) a d known serves refl);
      bytes_stay = ap (λ l. l.bytes) (local.1 (g + 1) (omega arith)) ∙ known.bytes_stay;
      noted = λ h. (each h).0;
      made = λ h. (each h).1;
    }

-- a line that did nothing
known-still : (longest : ℕ) (bytes : Bool) (n : ℕ) (l : Live) (lines : Lines) → AreLinesKnown longest bytes n l lines
    → AreLinesKnown longest bytes (n + 1) l lines
known-still longest bytes n l lines known = record {
  applied = known.applied;
  events = known.events;
  events_ascend = within-more 0 n lines.lasting.events known.events_ascend;
  declarations_ascend = within-more 0 n lines.lasting.declarations known.declarations_ascend;
  networks_ascend = known.networks_ascend;
  ordered = known.ordered;
  few = known.few;
  bytes_stay = known.bytes_stay;
  noted = known.noted;
  made = known.made;
}

behind-nothing : (n : ℕ) (line : Option Bytes) (lines : Lines) → lasting_behind n line None lines ≡ lines
behind-nothing n None lines = refl
behind-nothing n (Some []) lines = refl
behind-nothing n (Some (b ∷ line)) lines = refl

-- a line that did something is not empty, and not too long
abbrev IsBehind : ℕ → Option Bytes → Bytes → Done → Lines → Type 0
IsBehind n o line did lines = lasting_behind n o (Some did) lines ≡ lines_after n line did lines

behind-line : (longest : ℕ) (l t : Live) (n : ℕ) (line : Bytes) (a : LineReply) (did : Done) (lines : Lines)
    → Serves l n (given longest line) a t → a.done ≡ Some did → IsBehind n (given longest line) line did lines
behind-line longest l t n line a did lines serves some = by (nat_lt longest (length line)) serves
  where
    here : (line : Bytes) → Serves l n (Some line) a t → IsBehind n (Some line) line did lines
    here [] (inl (skipped, is, same)) = not-done a did (ap (λ x. x.done) is) some
    here [] (inr (runs, answered)) = absurd (runs (refl, refl))
    here (b ∷ line) serves = refl

    by : (long : Bool) → Serves l n (if long then None else Some line) a t
        → IsBehind n (if long then None else Some line) line did lines
    by true (is, same) = not-done a did (ap (λ x. x.done) is) some
    by false serves = here line serves

pub stays-known : NetworksAreMade → (longest : ℕ) (bytes : Bool) (n : ℕ) (line : Bytes) (a : LineReply) (l t : Live)
    (lines : Lines) → AreLinesKnown longest bytes n l lines → Remembers l n (given longest line) a t
    → AreLinesKnown longest bytes (n + 1) t (lasting_behind n (given longest line) a.done lines)
stays-known made longest bytes n line a l t lines known (serves, tells) = by a.done refl
  where
    by : (o : Option Done) → a.done ≡ o
        → AreLinesKnown longest bytes (n + 1) t (lasting_behind n (given longest line) o lines)
    by None not_any =
        subst (λ l. AreLinesKnown longest bytes (n + 1) l (lasting_behind n (given longest line) None lines))
        (sym (other_lines_change_nothing l t n (given longest line) a serves not_any))
        (subst (AreLinesKnown longest bytes (n + 1) l) (sym (behind-nothing n (given longest line) lines))
        (known-still longest bytes n l lines known))
    by (Some did) some =
        subst (AreLinesKnown longest bytes (n + 1) t) (sym (behind-line longest l t n line a did lines serves some))
        (known-behind made longest bytes n line a.text did.network did.deed l t lines known
        (subst (λ o. Serves l n (given longest line) (record { text = a.text; done = o }) t) some serves, tells))

-- ---- many lines
begins-known : (longest : ℕ) (bytes : Bool) → AreLinesKnown longest bytes 1 (new_live bytes) no_lines
begins-known longest bytes = record {
  applied = [];
  events = refl;
  events_ascend = omega arith;
  declarations_ascend = omega arith;
  networks_ascend = tt;
  ordered = record { waiting = tt; running = tt; apart = λ g. inl refl };
  few = omega arith;
  bytes_stay = refl;
  noted = λ g. (refl, refl);
  made = λ g. refl;
}

known-later : NetworksAreMade → (longest : ℕ) (bytes : Bool) {v w : Watched Live} {n : ℕ} {lines journal : List Bytes}
    {text : Bytes} → ServesAll (Watching Remembers) longest v n lines journal text w
    → AreLinesKnown longest bytes n v.server v.lines → (k : ℕ) × AreLinesKnown longest bytes k w.server w.lines
known-later made longest bytes {v} {w} {n} none known = (n, known)
known-later made longest bytes (next {s} {t} {u} {n} {line} a serves others) known =
    known-later made longest bytes others
    (subst (AreLinesKnown longest bytes (n + 1) t.server) (sym serves.1)
    (stays-known made longest bytes n line a s.server t.server s.lines known serves.0))

-- of each host that lines lead to it is known what the lines that last make of it
pub reached-is-known : NetworksAreMade → (longest : ℕ) (bytes : Bool) (n : ℕ) (lines journal : List Bytes) (text : Bytes)
    (w : Watched Live) → ServesAll (Watching Remembers) longest (unwatched (new_live bytes)) 1 lines journal text w
    → (k : ℕ) × AreLinesKnown longest bytes k w.server w.lines
reached-is-known made longest bytes n lines journal text w serves =
    known-later made longest bytes serves (begins-known longest bytes)
