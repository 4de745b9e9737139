-- What is known of a host and of the lines that last, behind one more line.
use Rattle.std.specs.Prelude.{◌≡◌, ◌≢◌, ◌&&◌, ◌==◌, ◌++◌, ◌∷◌, [], not, map, filter, ℕ, Bool, true, false, cond, List, Option, Some, None, if◌then◌else◌}
use Rattle.std.specs.Ordering.{nat_cmp}
use Rattle.std.specs.BTreeMap.{insert_entry, is_at}
use Rattle.std.specs.Map.{values_of}
use Rattle.std.proofs.Common.{◌∙◌, refl, sym, ap, subst, arith, map-id, true≢false}
use Rattle.std.proofs.lemmas.Bool.Decides.{Decides-eqb}
use Rattle.line_script.specs.Script.{Bytes}
use Rattle.live_feed.specs.Lasting.{Declaration, Lines, NetworkLines, entry_at, events_but, is_drop, lines_after, network_after, new_network, with_network, without_all, without_network, without_slots}
use Rattle.live_feed.specs.WholeLines.{given}
use Rattle.live_feed.specs.declared.answering.Deed.{Deed}
use Rattle.live_feed.specs.declared.answering.Deed.TheVariants as deed
use Rattle.live_feed.specs.declared.answering.Drawn.{Drawn}
use Rattle.live_host.specs.Apart.{AreFrom, OthersStay, alone}
use Rattle.live_host.specs.Compacted.{AppliedLine, AreLinesKnown, AreLinesNoted, AscendWithin, IsMade, NetworksAreMade, applied_behind, declarations_behind, declarations_of, declared_number, declares_of, done_as, is_at_slot, is_of_network, lines_at_slot, network_behind, of_network, pair_of, slot_lines}
use Rattle.live_host.specs.Hosts.{Live, Remembers}
use Rattle.live_host.proofs.Alone.{inserted-apart, inserted-ascend, removed-apart, removed-ascend, removed-is-gone, set-apart, set-ascend}
use Rattle.live_host.proofs.CompactedLists.{filter-append-one, filter-twice, inserted-last, map-append-one, none-passes, without-passing}
use Rattle.live_host.proofs.CompactedNoted.{closed-events, differs, dropped-events, inserted-there, itself, noted-behind, set-there}

-- ---- networks
-- a line changes what is known of its network
abbrev known : Option NetworkLines → NetworkLines
known None = new_network
known (Some net) = net

abbrev pub changed : ℕ → Bytes → ℕ → Deed → Option NetworkLines → Lines → Lines
changed n text g d o old =
    if is_drop d then without_network o n text (done_as g d) old else with_network o n text (done_as g d) old

networks-here : (n : ℕ) (text : Bytes) (g : ℕ) (d : Deed) (o : Option NetworkLines) (old : Lines) → AreFrom 0 old.networks
    → entry_at old.networks g ≡ o → entry_at (changed n text g d o old).networks g ≡ network_behind n d o
networks-here n text g d o old ascend is = by o is d
  where
    kept : (o : Option NetworkLines) → entry_at old.networks g ≡ o → (d : Deed)
        → entry_at (with_network o n text (done_as g d) old).networks g
        ≡ Some (network_after n d (known o))
    kept None is d = inserted-there old.networks g (network_after n d new_network)
    kept (Some net) is d = set-there old.networks g (network_after n d net) net is

    gone : (o : Option NetworkLines) → entry_at old.networks g ≡ o
        → entry_at (without_network o n text (done_as g deed.Dropped) old).networks g ≡ None
    gone None is = is
    gone (Some net) is = removed-is-gone g 0 old.networks ascend

    both : (o : Option NetworkLines) → entry_at old.networks g ≡ o → (d : Deed)
        → Some (network_after n d (known o)) ≡ network_behind n d o
        → entry_at (with_network o n text (done_as g d) old).networks g ≡ network_behind n d o
    both o is d same = kept o is d ∙ same

    same-behind : (o : Option NetworkLines) (d : Deed) → is_drop d ≡ false
        → Some (network_after n d (known o)) ≡ network_behind n d o
    same-behind None deed.Declared not_drop = refl
    same-behind None deed.Refused not_drop = refl
    same-behind None (deed.Applied i drawn) not_drop = refl
    same-behind None (deed.Closed i drawn) not_drop = refl
    same-behind None deed.Dropped not_drop = absurd (true≢false not_drop)
    same-behind (Some net) deed.Declared not_drop = refl
    same-behind (Some net) deed.Refused not_drop = refl
    same-behind (Some net) (deed.Applied i drawn) not_drop = refl
    same-behind (Some net) (deed.Closed i drawn) not_drop = refl
    same-behind (Some net) deed.Dropped not_drop = absurd (true≢false not_drop)

    by : (o : Option NetworkLines) → entry_at old.networks g ≡ o → (d : Deed)
        → entry_at (changed n text g d o old).networks g ≡ network_behind n d o
    by o is deed.Declared = both o is deed.Declared (same-behind o deed.Declared refl)
    by o is deed.Refused = both o is deed.Refused (same-behind o deed.Refused refl)
    by o is (deed.Applied i drawn) = both o is (deed.Applied i drawn) (same-behind o (deed.Applied i drawn) refl)
    by o is (deed.Closed i drawn) = both o is (deed.Closed i drawn) (same-behind o (deed.Closed i drawn) refl)
    by o is deed.Dropped = gone o is

networks-apart : (n : ℕ) (text : Bytes) (g h : ℕ) (d : Deed) (old : Lines) → h ≢ g
    → entry_at (lines_after n text (done_as g d) old).networks h ≡ entry_at old.networks h
networks-apart n text g h d old apart = by (entry_at old.networks g) d
  where
    kept : (o : Option NetworkLines) (d : Deed)
        → entry_at (with_network o n text (done_as g d) old).networks h ≡ entry_at old.networks h
    kept None d = inserted-apart g h old.networks (network_after n d new_network) apart
    kept (Some net) d = set-apart g h old.networks (network_after n d net) apart

    gone : (o : Option NetworkLines)
        → entry_at (without_network o n text (done_as g deed.Dropped) old).networks h ≡ entry_at old.networks h
    gone None = refl
    gone (Some net) = removed-apart g h old.networks apart

    by : (o : Option NetworkLines) (d : Deed)
        → entry_at (if is_drop d then without_network o n text (done_as g d) old
        else with_network o n text (done_as g d) old).networks h ≡ entry_at old.networks h
    by o deed.Declared = kept o deed.Declared
    by o deed.Refused = kept o deed.Refused
    by o (deed.Applied i drawn) = kept o (deed.Applied i drawn)
    by o (deed.Closed i drawn) = kept o (deed.Closed i drawn)
    by o deed.Dropped = gone o

pub networks-ascend : (n : ℕ) (text : Bytes) (g : ℕ) (d : Deed) (old : Lines) → AreFrom 0 old.networks
    → AreFrom 0 (lines_after n text (done_as g d) old).networks
networks-ascend n text g d old ascend = by (entry_at old.networks g) d
  where
    kept : (o : Option NetworkLines) (d : Deed) → AreFrom 0 (with_network o n text (done_as g d) old).networks
    kept None d = inserted-ascend g 0 old.networks (network_after n d new_network) (omega arith) ascend
    kept (Some net) d = set-ascend (is_at (nat_cmp g)) 0 old.networks (network_after n d net) ascend

    gone : (o : Option NetworkLines) → AreFrom 0 (without_network o n text (done_as g deed.Dropped) old).networks
    gone None = ascend
    gone (Some net) = removed-ascend (is_at (nat_cmp g)) 0 old.networks ascend

    by : (o : Option NetworkLines) (d : Deed)
        → AreFrom 0 (if is_drop d then without_network o n text (done_as g d) old
        else with_network o n text (done_as g d) old).networks
    by o deed.Declared = kept o deed.Declared
    by o deed.Refused = kept o deed.Refused
    by o (deed.Applied i drawn) = kept o (deed.Applied i drawn)
    by o (deed.Closed i drawn) = kept o (deed.Closed i drawn)
    by o deed.Dropped = gone o

-- ---- lines that last
-- what declares something
pub declarations-after : (n : ℕ) (text : Bytes) (g : ℕ) (d : Deed) (o : Option NetworkLines) (old : Lines)
    (es : List AppliedLine) → AscendWithin 0 n old.lasting.declarations
    → AreLinesNoted o (declarations_of g old.lasting.declarations) es
    → (changed n text g d o old).lasting.declarations ≡ declarations_behind n text g d old.lasting.declarations
declarations-after n text g d o old es within noted = by o noted d
  where
    one : insert_entry nat_cmp old.lasting.declarations n (record { network = g; text = text })
        ≡ old.lasting.declarations ++ (n, record { network = g; text = text }) ∷ []
    one = inserted-last 0 n old.lasting.declarations (record { network = g; text = text }) within

    by : (o : Option NetworkLines) → AreLinesNoted o (declarations_of g old.lasting.declarations) es → (d : Deed)
        → (changed n text g d o old).lasting.declarations ≡ declarations_behind n text g d old.lasting.declarations
    by None noted deed.Declared = one
    by None noted deed.Refused = refl
    by None noted (deed.Applied i drawn) = refl
    by None noted (deed.Closed i drawn) = refl
    by None (no-ds, no-es) deed.Dropped = sym (none-passes (declares_of g) old.lasting.declarations no-ds)
    by (Some net) noted deed.Declared = one
    by (Some net) noted deed.Refused = refl
    by (Some net) noted (deed.Applied i drawn) = refl
    by (Some net) noted (deed.Closed i drawn) = refl
    by (Some net) noted deed.Dropped =
        ap (λ ns. without_all ns old.lasting.declarations) noted.declared
        ∙ ap (without_all (map declared_number (declarations_of g old.lasting.declarations)))
        (sym (map-id old.lasting.declarations))
        ∙ without-passing (λ e. e) (declares_of g) 0 n old.lasting.declarations
        (subst (AscendWithin 0 n) (sym (map-id old.lasting.declarations)) within)
        ∙ map-id (filter (λ e. not (declares_of g e)) old.lasting.declarations)

-- what concerns open slots
pub events-after : (n : ℕ) (text : Bytes) (g : ℕ) (d : Deed) (o : Option NetworkLines) (old : Lines)
    (ds : List (ℕ × Declaration)) (es : List AppliedLine) → old.lasting.events ≡ map pair_of es
    → AscendWithin 0 n old.lasting.events → AreLinesNoted o ds (of_network g es)
    → (changed n text g d o old).lasting.events ≡ map pair_of (applied_behind n text g d es)
events-after n text g d o old ds es are within noted = by o noted d
  where
    pairs-within : AscendWithin 0 n (map pair_of es)
    pairs-within = subst (AscendWithin 0 n) are within

    one : (i : ℕ) (drawn : Drawn) → insert_entry nat_cmp old.lasting.events n text
        ≡ map pair_of (es ++ record { number = n; network = g; text = text; slot = i; drawn = drawn } ∷ [])
    one i drawn =
        inserted-last 0 n old.lasting.events text within ∙ ap (λ l. l ++ (n, text) ∷ []) are
        ∙ sym (map-append-one pair_of es (record { number = n; network = g; text = text; slot = i; drawn = drawn }))

    by : (o : Option NetworkLines) → AreLinesNoted o ds (of_network g es) → (d : Deed)
        → (changed n text g d o old).lasting.events ≡ map pair_of (applied_behind n text g d es)
    by None noted deed.Declared = are
    by None noted deed.Refused = are
    by None noted (deed.Applied i drawn) = one i drawn
    by None (no-ds, no-es) (deed.Closed i drawn) =
        are ∙ closed-events g i n es None pairs-within (sym (ap (λ l. slot_lines (lines_at_slot i l)) no-es))
    by None (no-ds, no-es) deed.Dropped = are ∙ ap (map pair_of) (sym (none-passes (is_of_network g) es no-es))
    by (Some net) noted deed.Declared = are
    by (Some net) noted deed.Refused = are
    by (Some net) noted (deed.Applied i drawn) = one i drawn
    by (Some net) noted (deed.Closed i drawn) =
        ap (events_but (entry_at net.slots i)) are
        ∙ closed-events g i n es (entry_at net.slots i) pairs-within (noted.slots i)
    by (Some net) noted deed.Dropped =
        ap (without_slots (values_of net.slots)) are
        ∙ dropped-events g 0 n net.slots es noted.ascend pairs-within noted.slots

-- ---- lines of one network, and of the others
append-nothing : {X : Type 0} (xs : List X) → xs ++ [] ≡ xs
append-nothing [] = refl
append-nothing (x ∷ xs) = ap (λ l. x ∷ l) (append-nothing xs)

commutes : {X : Type 0} (p q : X → Bool) (xs : List X) → filter p (filter q xs) ≡ filter q (filter p xs)
commutes p q xs =
    filter-twice p q (λ x. q x && p x) (λ x. refl) xs
    ∙ sym (filter-twice q p (λ x. q x && p x) (λ x. swap (p x) (q x)) xs)
  where
    swap : (a b : Bool) → (a && b) ≡ (b && a)
    swap true true = refl
    swap true false = refl
    swap false true = refl
    swap false false = refl

-- those of a network are not those that another test takes away
stay-others : {X : Type 0} (p q : X → Bool) → ((x : X) → (q x && p x) ≡ p x) → (xs : List X)
    → filter p (filter q xs) ≡ filter p xs
stay-others p q law xs = filter-twice p q p law xs

abbrev of_other : ℕ → ℕ → ℕ → Bool → Type 0
of_other n g h b = (not ((n == g) && b) && (n == h)) ≡ (n == h)

is-of-other : (n g h : ℕ) (b : Bool) → h ≢ g → of_other n g h b
is-of-other n g h b apart = by (n == g) refl
  where
    gone : (c : Bool) → c ≡ false → (not b && c) ≡ c
    gone true is = absurd (true≢false is)
    gone false is = by b
      where
        by : (b : Bool) → (not b && false) ≡ false
        by true = refl
        by false = refl

    by : (is : Bool) → (n == g) ≡ is → (not (is && b) && (n == h)) ≡ (n == h)
    by true is = gone (n == h) (differs n h (λ same. apart (sym same ∙ (Decides-eqb n g).0 is)))
    by false is = refl

and-true : (b : Bool) → (b && true) ≡ b
and-true true = refl
and-true false = refl

own-declarations : (n : ℕ) (text : Bytes) (g : ℕ) (d : Deed) (ds : List (ℕ × Declaration))
    → declarations_of g (declarations_behind n text g d ds) ≡ declarations_behind n text g d (declarations_of g ds)
own-declarations n text g deed.Declared ds =
    let e : ℕ × Declaration = (n, record { network = g; text = text }) in
    filter-append-one (declares_of g) ds e ∙ ap (λ b. declarations_of g ds ++ cond b (e ∷ []) []) (itself g)
own-declarations n text g deed.Refused ds = refl
own-declarations n text g (deed.Applied i drawn) ds = refl
own-declarations n text g (deed.Closed i drawn) ds = refl
own-declarations n text g deed.Dropped ds = commutes (declares_of g) (λ e. not (declares_of g e)) ds

other-declarations : (n : ℕ) (text : Bytes) (g h : ℕ) (d : Deed) (ds : List (ℕ × Declaration)) → h ≢ g
    → declarations_of h (declarations_behind n text g d ds) ≡ declarations_of h ds
other-declarations n text g h deed.Declared ds apart =
    let e : ℕ × Declaration = (n, record { network = g; text = text }) in
    filter-append-one (declares_of h) ds e
    ∙ ap (λ b. declarations_of h ds ++ cond b (e ∷ []) []) (differs g h (λ same. apart (sym same)))
    ∙ append-nothing (declarations_of h ds)
other-declarations n text g h deed.Refused ds apart = refl
other-declarations n text g h (deed.Applied i drawn) ds apart = refl
other-declarations n text g h (deed.Closed i drawn) ds apart = refl
other-declarations n text g h deed.Dropped ds apart =
    stay-others (declares_of h) (λ e. not (declares_of g e))
    (λ e. ap (λ b. not b && declares_of h e) (sym (and-true (declares_of g e))) ∙ is-of-other e.1.network g h true apart) ds

own-applied : (n : ℕ) (text : Bytes) (g : ℕ) (d : Deed) (es : List AppliedLine)
    → of_network g (applied_behind n text g d es) ≡ applied_behind n text g d (of_network g es)
own-applied n text g deed.Declared es = refl
own-applied n text g deed.Refused es = refl
own-applied n text g (deed.Applied i drawn) es =
    let e : AppliedLine = record { number = n; network = g; text = text; slot = i; drawn = drawn } in
    filter-append-one (is_of_network g) es e ∙ ap (λ b. of_network g es ++ cond b (e ∷ []) []) (itself g)
own-applied n text g (deed.Closed i drawn) es =
    commutes (is_of_network g) (λ e. not (is_of_network g e && is_at_slot i e)) es
own-applied n text g deed.Dropped es = commutes (is_of_network g) (λ e. not (is_of_network g e)) es

other-applied : (n : ℕ) (text : Bytes) (g h : ℕ) (d : Deed) (es : List AppliedLine) → h ≢ g
    → of_network h (applied_behind n text g d es) ≡ of_network h es
other-applied n text g h deed.Declared es apart = refl
other-applied n text g h deed.Refused es apart = refl
other-applied n text g h (deed.Applied i drawn) es apart =
    let e : AppliedLine = record { number = n; network = g; text = text; slot = i; drawn = drawn } in
    filter-append-one (is_of_network h) es e
    ∙ ap (λ b. of_network h es ++ cond b (e ∷ []) []) (differs g h (λ same. apart (sym same)))
    ∙ append-nothing (of_network h es)
other-applied n text g h (deed.Closed i drawn) es apart =
    stay-others (is_of_network h) (λ e. not (is_of_network g e && is_at_slot i e))
    (λ e. is-of-other e.network g h (is_at_slot i e) apart) es
other-applied n text g h deed.Dropped es apart =
    stay-others (is_of_network h) (λ e. not (is_of_network g e))
    (λ e. ap (λ b. not b && is_of_network h e) (sym (and-true (is_of_network g e))) ∙ is-of-other e.network g h true apart) es

-- ---- each network
abbrev IsState : ℕ → Bool → ℕ → Option NetworkLines → List (ℕ × Declaration) → List AppliedLine → Live → Type 0
IsState longest bytes g o ds es own = AreLinesNoted o ds es × IsMade longest bytes g o ds es own

carried : (longest : ℕ) (bytes : Bool) (g : ℕ) (o p : Option NetworkLines) (ds cs : List (ℕ × Declaration))
    (es fs : List AppliedLine) (own other : Live) → p ≡ o → cs ≡ ds → fs ≡ es → other ≡ own
    → IsState longest bytes g o ds es own → IsState longest bytes g p cs fs other
carried longest bytes g o p ds cs es fs own other one two three four state =
    subst (λ p. IsState longest bytes g p cs fs other) (sym one)
    (subst (λ cs. IsState longest bytes g o cs fs other) (sym two)
    (subst (λ fs. IsState longest bytes g o ds fs other) (sym three)
    (subst (λ l. IsState longest bytes g o ds es l) (sym four) state)))

filtered-twice : {X : Type 0} (p : X → Bool) (xs : List X) → filter p (filter p xs) ≡ filter p xs
filtered-twice p xs = filter-twice p p p (λ x. by (p x)) xs
  where
    by : (b : Bool) → (b && b) ≡ b
    by true = refl
    by false = refl

-- of each network it is known what the lines that last make of it
pub each-behind : NetworksAreMade → (longest : ℕ) (bytes : Bool) (n : ℕ) (line text : Bytes) (g : ℕ) (d : Deed) (l t : Live)
    (lines : Lines) (known : AreLinesKnown longest bytes n l lines)
    → Remembers (alone g l) n (given longest line) (record { text = text; done = Some (done_as g d) }) (alone g t)
    → OthersStay g l t → (h : ℕ)
    → IsState longest bytes h (entry_at (lines_after n line (done_as g d) lines).networks h)
    (declarations_of h (lines_after n line (done_as g d) lines).lasting.declarations)
    (of_network h (applied_behind n line g d known.applied)) (alone h t)
each-behind made longest bytes n line text g d l t lines known serves others h = by (h == g) refl
  where
    declares : (lines_after n line (done_as g d) lines).lasting.declarations
        ≡ declarations_behind n line g d lines.lasting.declarations
    declares = declarations-after n line g d (entry_at lines.networks g) lines (of_network g known.applied)
        known.declarations_ascend (known.noted g)

    here : IsState longest bytes g (entry_at (lines_after n line (done_as g d) lines).networks g)
        (declarations_of g (lines_after n line (done_as g d) lines).lasting.declarations)
        (of_network g (applied_behind n line g d known.applied)) (alone g t)
    here =
        carried longest bytes g _ _ _ _ _ _ _ _
        (networks-here n line g d (entry_at lines.networks g) lines known.networks_ascend refl)
        (ap (declarations_of g) declares ∙ own-declarations n line g d lines.lasting.declarations)
        (own-applied n line g d known.applied) refl (
          noted-behind g n line d (entry_at lines.networks g) lines.lasting.declarations known.applied (known.noted g),
          made longest bytes g n line text d (entry_at lines.networks g) (declarations_of g lines.lasting.declarations)
              (of_network g known.applied) (alone g l) (alone g t) (known.noted g)
              (filtered-twice (is_of_network g) known.applied) (known.made g) serves,
        )

    by : (b : Bool) → (h == g) ≡ b
        → IsState longest bytes h (entry_at (lines_after n line (done_as g d) lines).networks h)
        (declarations_of h (lines_after n line (done_as g d) lines).lasting.declarations)
        (of_network h (applied_behind n line g d known.applied)) (alone h t)
    by true is = subst
        (λ h. IsState longest bytes h (entry_at (lines_after n line (done_as g d) lines).networks h)
        (declarations_of h (lines_after n line (done_as g d) lines).lasting.declarations)
        (of_network h (applied_behind n line g d known.applied)) (alone h t))
        (sym ((Decides-eqb h g).0 is)) here
    by false is =
        let apart : h ≢ g = λ same. true≢false (sym ((Decides-eqb h g).1 same) ∙ is) in
        carried longest bytes h _ _ _ _ _ _ _ _ (networks-apart n line g h d lines apart)
        (ap (declarations_of h) declares ∙ other-declarations n line g h d lines.lasting.declarations apart)
        (other-applied n line g h d known.applied apart) (others h apart) (known.noted h, known.made h)
