-- What the lines that last make of a network, behind one more line of it, in each of the cases.
use Rattle.std.specs.Prelude.{◌≡◌, ◌&&◌, ◌++◌, ◌∷◌, [], not, map, ℕ, Bool, true, false, List, Some, None}
use Rattle.std.proofs.Common.{◌∙◌, refl, sym, ap, subst, inl, inr}
use Rattle.scp_spec.specs.Hosts.{Config}
use Rattle.host_network.specs.Standing.{Machine}
use Rattle.line_script.specs.Script.{Bytes}
use Rattle.live_feed.specs.Lasting.{Declaration, NetworkLines, both_drawn, drawn_at, entry_at, nothing_drawn}
use Rattle.live_feed.specs.WholeLines.{given}
use Rattle.live_feed.specs.declared.answering.Deed.{Deed}
use Rattle.live_feed.specs.declared.answering.Deed.TheVariants as deed
use Rattle.live_feed.specs.declared.answering.Drawn.{Drawn}
use Rattle.line_request.specs.Outlines.{IsConfigOf, Outlined}
use Rattle.live_host.specs.Blocks.{TellsOfNoWant}
use Rattle.live_host.specs.Compacted.{AppliedLine, AreApplied, AreServedFor, DeclarationsAreSmall, DoAll, IsMade, IsMadeAs, IsNamedNetwork, IsSmall, IsUnnamed, NetworksAreMade, applied_behind, but_at_slot, but_there, declarations_behind, declared_text, declaring, done_as, is_at_slot, is_of_network, lines_at_slot, network_behind, of_network, slot_lines}
use Rattle.live_host.specs.Lowering.{waits_alone, runs_alone}
use Rattle.live_host.specs.Compacted.AreServedFor.{none_served}
use Rattle.live_host.specs.Compacted.DoAll.{no_deed}
use Rattle.live_host.specs.Erasing.AreServedInTurn.{ended}
use Rattle.live_host.specs.Futures.{moved_config}
use Rattle.live_host.specs.Hosts.{Live, Serves, begun, new_live}
use Rattle.live_host.proofs.AlikeInTurn.{alike-in-turn}
use Rattle.live_host.proofs.AlikeMachines.{begun-alike, stays}
use Rattle.live_host.proofs.CompactedAsked.{what-it-asks}
use Rattle.live_host.proofs.CompactedErased.{refused_lines_stay_alike, run-more, served-more, slots_may_be_erased}
use Rattle.live_host.proofs.CompactedLists.{filter-twice, map-append-one}
use Rattle.live_host.proofs.CompactedMade.{IsEventDeed, NewOn, RunsOn, WaitsOn, do-one-more, new-on, replied, runs-on, served-the-other, waits-on}
use Rattle.live_host.proofs.CompactedMade.WaitsOn.{begins, declares_more, taken_back}
use Rattle.live_host.proofs.CompactedServed.{line-of}
use Rattle.live_host.proofs.CompactedSums.{lost-more}
use Rattle.live_host.proofs.ErasedRuns.{begun-stood, run-stood}

-- ---- declarations
-- one more of them
declared-more : (longest g n : ℕ) (line text : Bytes) (ds : List (ℕ × Declaration)) {l old new : Live}
    → DoAll longest g l (map declaring (map declared_text ds)) old
    → Serves old n (given longest line) (replied text g deed.Declared) new
    → DoAll longest g l (map declaring (map declared_text (ds ++ (n, record { network = g; text = line }) ∷ []))) new
declared-more longest g n line text ds {l} {old} {new} before serves =
    subst (λ acts. DoAll longest g l acts new)
    (sym (ap (map declaring) (map-append-one declared_text ds (n, record { network = g; text = line }))
    ∙ map-append-one declaring (map declared_text ds) line))
    (do-one-more longest g n text (declaring line) before serves)

-- ---- a network that runs
abbrev SlotsAre : NetworkLines → List AppliedLine → Type 0
SlotsAre net es = (i : ℕ) → entry_at net.slots i ≡ slot_lines (lines_at_slot i es)

others-there : (g i : ℕ) (es : List AppliedLine) → of_network g es ≡ es → but_there g i es ≡ but_at_slot i es
others-there g i es own =
    ap (but_there g i) (sym own)
    ∙ filter-twice (λ e. not (is_of_network g e && is_at_slot i e)) (is_of_network g)
    (λ e. is_of_network g e && not (is_at_slot i e)) (λ e. by (is_of_network g e) (is_at_slot i e)) es
    ∙ sym (filter-twice (λ e. not (is_at_slot i e)) (is_of_network g) (λ e. is_of_network g e && not (is_at_slot i e))
    (λ e. refl) es) ∙ ap (but_at_slot i) own
  where
    by : (a b : Bool) → (a && not (a && b)) ≡ (a && not b)
    by true b = refl
    by false b = refl

applied-made : (longest : ℕ) (bytes : Bool) (g n i : ℕ) (line text : Bytes) (d lost : Drawn) (ds : List (ℕ × Declaration))
    (es : List AppliedLine) (old : Live) (after : Machine) (is : IsNamedNetwork longest bytes g lost ds es old)
    → TellsOfNoWant text
    → Serves (runs_alone bytes g is.machine) n (given longest line) (replied text g (deed.Applied i d)) (runs_alone bytes g after)
    → IsNamedNetwork longest bytes g lost ds (applied_behind n line g (deed.Applied i d) es) (runs_alone bytes g after)
applied-made longest bytes g n i line text d lost ds es old after is tells serves =
    let other = served-the-other longest bytes g n line text (deed.Applied i d) is.machine after is.left is.alike serves in
    let e : AppliedLine = record { number = n; network = g; text = line; slot = i; drawn = d } in
    let stood = (run-stood (begun-stood is.rest) is.applied.run).0 in
    let here = line-of longest bytes g n is.left other.0 e text stood tells other.2 in
    record {
      outlined = is.outlined;
      small = is.small;
      declared = is.declared;
      config = is.config;
      rest = is.rest;
      is_config = is.is_config;
      less = is.less;
      machine = after;
      left = other.0;
      applied = record {
        lines = is.applied.lines ++ here.0 ∷ [];
        served = served-more e here.0 is.applied.served here.1;
        run = run-more here.0 is.applied.run here.2;
      };
      alike = other.1;
      is = refl;
    }

closed-made : (longest : ℕ) (bytes : Bool) (g n i : ℕ) (line text : Bytes) (d : Drawn)
    (net : NetworkLines) (ds : List (ℕ × Declaration)) (es : List AppliedLine) (old : Live) (after : Machine)
    (is : IsNamedNetwork longest bytes g net.lost ds es old) → SlotsAre net es → of_network g es ≡ es
    → Serves (runs_alone bytes g is.machine) n (given longest line) (replied text g (deed.Closed i d)) (runs_alone bytes g after)
    → IsNamedNetwork longest bytes g (both_drawn net.lost (both_drawn (drawn_at (entry_at net.slots i)) d)) ds (but_there g i es)
    (runs_alone bytes g after)
closed-made longest bytes g n i line text d net ds es old after is slots own serves =
    let other = served-the-other longest bytes g n line text (deed.Closed i d) is.machine after is.left is.alike serves in
    let left = slots_may_be_erased longest bytes g n i line text d is.rest es is.left other.0 is.applied other.2 in
    record {
      outlined = is.outlined;
      small = is.small;
      declared = is.declared;
      config = is.config;
      rest = left.0;
      is_config = is.is_config;
      less = subst (λ o. is.config ≡ moved_config (both_drawn net.lost (both_drawn (drawn_at o) d)) left.0) (sym (slots i))
          (lost-more g is.outlined is.config is.rest left.0 net.lost (lines_at_slot i es) d is.small is.is_config is.less left.2);
      machine = after;
      left = left.1;
      applied = subst (λ others. AreApplied longest g (begun left.0) others left.1) (sym (others-there g i es own)) left.3;
      alike = alike-in-turn after other.0 left.1 other.1 left.4;
      is = refl;
    }

refused-made : (longest : ℕ) (bytes : Bool) (g n : ℕ) (line text : Bytes) (lost : Drawn)
    (ds : List (ℕ × Declaration)) (es : List AppliedLine) (old : Live) (after : Machine)
    (is : IsNamedNetwork longest bytes g lost ds es old)
    → Serves (runs_alone bytes g is.machine) n (given longest line) (replied text g deed.Refused) (runs_alone bytes g after)
    → IsNamedNetwork longest bytes g lost ds es (runs_alone bytes g after)
refused-made longest bytes g n line text lost ds es old after is serves =
    let left = refused_lines_stay_alike longest bytes g n line text is.rest es is.machine after is.left is.applied is.alike serves in
    record {
      outlined = is.outlined;
      small = is.small;
      declared = is.declared;
      config = is.config;
      rest = is.rest;
      is_config = is.is_config;
      less = is.less;
      machine = after;
      left = left.0;
      applied = left.1;
      alike = left.2;
      is = refl;
    }

-- what is made of a network behind a line
abbrev IsMadeBehind : ℕ → Bool → ℕ → ℕ → Bytes → Deed → NetworkLines → List (ℕ × Declaration) → List AppliedLine → Live
    → Type 0
IsMadeBehind longest bytes g n line d net ds es new =
    IsMade longest bytes g (network_behind n d (Some net)) (declarations_behind n line g d ds) (applied_behind n line g d es)
    new

named-made : (longest : ℕ) (bytes : Bool) (g n : ℕ) (line text : Bytes)
    (d : Deed) (net : NetworkLines) (ds : List (ℕ × Declaration)) (es : List AppliedLine) (old new : Live)
    (is : IsNamedNetwork longest bytes g net.lost ds es old) → SlotsAre net es → of_network g es ≡ es → TellsOfNoWant text
    → Serves (runs_alone bytes g is.machine) n (given longest line) (replied text g d) new
    → IsMadeBehind longest bytes g n line d net ds es new
named-made longest bytes g n line text d net ds es old new is slots own tells serves =
    by (runs-on n g bytes (given longest line) is.machine (replied text g d) d new refl
    (what-it-asks n (given longest line) (runs_alone bytes g is.machine) new (replied text g d) (done_as g d) serves refl))
  where
    at : (d : Deed) (after : Machine) → IsEventDeed d
        → Serves (runs_alone bytes g is.machine) n (given longest line) (replied text g d) (runs_alone bytes g after)
        → IsMadeBehind longest bytes g n line d net ds es (runs_alone bytes g after)
    at deed.Declared after event serves = absurd event
    at deed.Refused after event serves = refused-made longest bytes g n line text net.lost ds es old after is serves
    at (deed.Applied i drawn) after event serves =
        applied-made longest bytes g n i line text drawn net.lost ds es old after is tells serves
    at (deed.Closed i drawn) after event serves =
        closed-made longest bytes g n i line text drawn net ds es old after is slots own serves
    at deed.Dropped after event serves = absurd event

    by : RunsOn bytes g d new → IsMadeBehind longest bytes g n line d net ds es new
    by (inl (event, (after, same))) =
        subst (IsMadeBehind longest bytes g n line d net ds es) (sym same)
        (at d after event (subst (Serves (runs_alone bytes g is.machine) n (given longest line) (replied text g d)) same serves))
    by (inr (drops, gone)) = subst (λ d. IsMadeBehind longest bytes g n line d net ds es new) (sym drops) gone

-- ---- a network that waits
-- it has begun, and nothing has happened to it
abbrev begun-made : (longest : ℕ) (bytes : Bool) (g : ℕ) (c : Config) (lost : Drawn) (ds : List (ℕ × Declaration))
    (es : List AppliedLine) (old : Live) (is : IsUnnamed longest bytes g lost ds es old) → IsConfigOf g is.outlined c
    → IsNamedNetwork longest bytes g lost ds es (runs_alone bytes g (begun c))
begun-made longest bytes g c lost ds es old is of = record {
  outlined = is.outlined;
  small = is.small;
  declared = subst (DoAll longest g (new_live bytes) (map declaring (map declared_text ds))) is.is is.declared;
  config = c;
  rest = c;
  is_config = of;
  less = subst (λ l. c ≡ moved_config l c) (sym is.none_lost) (ap (λ m. m.config) (stays (begun c)));
  machine = begun c;
  left = begun c;
  applied = record {
    lines = [];
    served = subst (λ l. AreServedFor longest g l []) (sym is.none_applied) none_served;
    run = ended;
  };
  alike = begun-alike c;
  is = refl;
}

waiting-made : DeclarationsAreSmall → (longest : ℕ) (bytes : Bool) (g n : ℕ)
    (line text : Bytes) (d : Deed) (net : NetworkLines) (ds : List (ℕ × Declaration)) (es : List AppliedLine)
    (old new : Live) → net.is_named ≡ false → IsUnnamed longest bytes g net.lost ds es old → SlotsAre net es
    → of_network g es ≡ es → TellsOfNoWant text → Serves old n (given longest line) (replied text g d) new
    → IsMadeBehind longest bytes g n line d net ds es new
waiting-made are_small longest bytes g n line text d net ds es old new unnamed is slots own tells serves =
    let here = subst (λ l. Serves l n (given longest line) (replied text g d) new) is.is serves in
    by (waits-on are_small longest bytes g n line text is.outlined d new is.small
    (what-it-asks n (given longest line) (waits_alone bytes g is.outlined) new (replied text g d) (done_as g d) here refl))
  where
    more : (p : Outlined) → IsSmall p → new ≡ waits_alone bytes g p
        → Serves old n (given longest line) (replied text g deed.Declared) new
        → IsMadeBehind longest bytes g n line deed.Declared net ds es new
    more p small same serves = subst
        (λ named. IsMadeAs named longest bytes g net.lost (ds ++ (n, record { network = g; text = line }) ∷ []) es new)
        (sym unnamed)
        (record {
          outlined = p;
          small = small;
          declared = declared-more longest g n line text ds is.declared serves;
          none_applied = is.none_applied;
          none_lost = is.none_lost;
          is = same;
        })

    by : WaitsOn longest bytes g n line text is.outlined d new → IsMadeBehind longest bytes g n line d net ds es new
    by (declares_more declares p small same) =
        subst (λ d. IsMadeBehind longest bytes g n line d net ds es new) (sym declares)
        (more p small same (subst (λ d. Serves old n (given longest line) (replied text g d) new) declares serves))
    by (begins c of later) =
        named-made longest bytes g n line text d net ds es (runs_alone bytes g (begun c)) new
        (begun-made longest bytes g c net.lost ds es old is of) slots own tells later
    by (taken_back drops gone) = subst (λ d. IsMadeBehind longest bytes g n line d net ds es new) (sym drops) gone

-- ---- a network that is none
none-made : DeclarationsAreSmall → (longest : ℕ) (bytes : Bool) (g n : ℕ) (line text : Bytes) (d : Deed)
    (ds : List (ℕ × Declaration)) (es : List AppliedLine) (new : Live) → ds ≡ [] → es ≡ []
    → Serves (new_live bytes) n (given longest line) (replied text g d) new
    → IsMade longest bytes g (network_behind n d None) (declarations_behind n line g d ds) (applied_behind n line g d es) new
none-made are_small longest bytes g n line text d ds es new no-ds no-es serves =
    by (new-on are_small bytes g n (given longest line) (replied text g d) d new refl
    (what-it-asks n (given longest line) (new_live bytes) new (replied text g d) (done_as g d) serves refl))
  where
    more : (o : Outlined) → IsSmall o → new ≡ waits_alone bytes g o
        → Serves (new_live bytes) n (given longest line) (replied text g deed.Declared) new
        → IsUnnamed longest bytes g nothing_drawn (ds ++ (n, record { network = g; text = line }) ∷ []) es new
    more o small same serves = record {
      outlined = o;
      small = small;
      declared = declared-more longest g n line text ds
          (subst (λ l. DoAll longest g (new_live bytes) (map declaring (map declared_text l)) (new_live bytes)) (sym no-ds) no_deed)
          serves;
      none_applied = no-es;
      none_lost = refl;
      is = same;
    }

    by : NewOn bytes g d new
        → IsMade longest bytes g (network_behind n d None) (declarations_behind n line g d ds) (applied_behind n line g d es)
        new
    by (declares, (o, small, same)) =
        subst
        (λ d. IsMade longest bytes g (network_behind n d None) (declarations_behind n line g d ds) (applied_behind n line g d es)
        new)
        (sym declares)
        (more o small same
        (subst (λ d. Serves (new_live bytes) n (given longest line) (replied text g d) new) declares serves))

-- ---- each network
pub networks_are_made : DeclarationsAreSmall → NetworksAreMade
networks_are_made are_small longest bytes g n line text d None ds es old new (no-ds, no-es) own made (serves, tells) =
    none-made are_small longest bytes g n line text d ds es new no-ds no-es
    (subst (λ l. Serves l n (given longest line) (replied text g d) new) made serves)
networks_are_made are_small longest bytes g n line text d (Some net) ds es old new noted own made (serves, tells) =
    by net.is_named refl made
  where
    by : (named : Bool) → net.is_named ≡ named → IsMadeAs named longest bytes g net.lost ds es old
        → IsMadeBehind longest bytes g n line d net ds es new
    by false is made =
        waiting-made are_small longest bytes g n line text d net ds es old new is made noted.slots own tells serves
    by true is made =
        named-made longest bytes g n line text d net ds es old new made noted.slots own tells
        (subst (λ l. Serves l n (given longest line) (replied text g d) new) made.is serves)
