-- Each step keeps the rule.
use Rattle.std.proofs.Common.{◌≡◌, ◌≢◌, ◌⊎◌, ℕ, zero, suc, ◌+◌, ◌<◌, ◌≤◌, Bool, true, false, true≢false, if◌then◌else◌, ◌==◌, List, [], ◌∷◌, ◌++◌, length, set, refl, sym, ap, ◌∙◌, subst, inl, inr, ⊎_elim, arith, length-append, eq-eqb, ne_eqb, append_assoc}
use Rattle.std.proofs.Common.{map}
use Rattle.std.proofs.lemmas.List.{append-nil, map-append}
use Rattle.std.proofs.lemmas.List.Elements.{All-head, All-nil, All-push, All-tail}
use mathlib.Core.Option.{some, some-ne-none, some-injective}
use mathlib.Core.List.{IsPrefix}
use lib.ListN.{get_elem?}
use Rattle.crossbeam_queue.specs.Fifo.{Pushes, Pops, Forks, Merges, Learns}
use Rattle.atomic_table.proofs.Lists.{at_set}
use Rattle.scp_types.specs.declared.event.Event.{Event}
use Rattle.scp_spec.specs.Hosts.{Config, Entry}
use Rattle.pool_cell.specs.declared.refusal.CellRefusal.{CellRefusal}
use Rattle.pool_cell.specs.Receipts.{AppliedEvent, Extract, extract, extract_of, extracts_from, extracts_of, receipt_entry}
use Rattle.pool_cell.specs.Views.{Denial, CellStateSight, Knowledge, nothing_known}
use Rattle.pool_cell.specs.Rule.{opener, after_opening, one_more, seat_of, new_seat, after_end, note_of, closer_of, with_note, cell_state_at, AllBelow, CellHistory, World, Claims, Has, FitsWorld, AllFit, IsOpen, Holds, IsEmpty, after_taking, IsStateTaken, Agrees, after_application, denial, after_denial, after_look, after_stop, HasCellState}

off : {A : Type 0} → false ≡ true → A
off e = absurd (true≢false (sym e))

is_or_not : (b : Bool) → (b ≡ true) ⊎ (b ≡ false)
is_or_not b = elim b as (λ v. (v ≡ true) ⊎ (v ≡ false)) [ true ↦ inl refl | false ↦ inr refl ]

pub prefix_more : (a l : List Entry) (e : Entry) → IsPrefix a l → IsPrefix a (l ++ e ∷ [])
prefix_more a l e p = (p.0 ++ e ∷ [], sym (append_assoc a p.0 (e ∷ [])) ∙ ap (λ (x : List Entry). x ++ e ∷ []) p.1)

all_set : (F : ℕ → Knowledge → Type 0) (views : List Knowledge) (id : ℕ) (w : Knowledge) → F id w → ((j : ℕ) (u : Knowledge) → j ≢ id → get_elem? views j ≡ some u → F j u) → (j : ℕ) (u : Knowledge) → get_elem? (set views id w) j ≡ some u → F j u
all_set F views id w mine others j u e =
    ⊎_elim
    (λ (x : (j ≡ id) × (w ≡ u)). subst (λ (y : ℕ × Knowledge). F y.0 y.1) (λ i. (sym x.0 i, x.1 i)) mine)
    (λ (x : (j ≢ id) × (get_elem? views j ≡ some u)). others j u x.0 x.1)
    (at_set views id j w u e)

-- what stands in a list one longer
at_end : (l : List Knowledge) (a b : Knowledge) (j : ℕ) → get_elem? (l ++ a ∷ []) j ≡ some b → (get_elem? l j ≡ some b) ⊎ ((j ≡ length l) × (a ≡ b))
at_end [] a b zero e = inr (refl, some-injective a b e)
at_end [] a b (suc j) e = absurd (some-ne-none b (sym e))
at_end (x ∷ xs) a b zero e = inl e
at_end (x ∷ xs) a b (suc j) e = ⊎_elim (λ h. inl h) (λ h. inr (ap suc h.0, h.1)) (at_end xs a b j e)

-- the only view before the cell state is there
only : (v : Knowledge) (views : List Knowledge) (id : ℕ) → views ≡ opener ∷ [] → get_elem? views id ≡ some v → (id ≡ 0) × (v ≡ opener)
only v views id is at = go id (subst (λ (l : List Knowledge). get_elem? l id ≡ some v) is at)
  where
    go : (k : ℕ) → get_elem? (opener ∷ []) k ≡ some v → (k ≡ 0) × (v ≡ opener)
    go zero e = (refl, sym (some-injective opener v e))
    go (suc k) e = absurd (some-ne-none v (sym e))

-- a view that has and claims nothing fits
fits_idle : (g : World) (id : ℕ) (v : Knowledge) → v.opening ≡ false → v.opens ≡ false → v.live ≡ false → v.claims ≡ false → v.holding ≡ false
    → (v.known ≡ true → (v.config ≡ g.past.config) × (v.seats ≡ g.past.seats)) → FitsWorld g id v
fits_idle g id v opening opens live claims holding known = record {
  opening = opening;
  opens = λ l. off (sym opens ∙ l);
  known = known;
  live = λ l. off (sym live ∙ l);
  claims = λ l. off (sym claims ∙ l);
  holding = λ l. off (sym holding ∙ l);
}

-- so many seats are made, these have ended, and they are at home there
abbrev seated : World → ℕ → (ℕ → Bool) → (ℕ → ℕ) → World
seated g made gone home = record g { past = record g.past { made = made; ended = gone }; home = home }

has_seated : (g : World) (made : ℕ) (gone : ℕ → Bool) (home : ℕ → ℕ) (id : ℕ) (v : Knowledge) → Has g id v → Has (seated g made gone home) id v
has_seated g made gone home id v m = record { free = m.free; holder = m.holder; all = m.all; owners = m.owners; over = m.over; stopper = m.stopper }

-- the cell state stays where it is
open_seated : (g : World) (gone : ℕ → Bool) (items : List CellStateSight) (views now : List Knowledge) → IsOpen g items views
    → AllFit (seated g g.past.made gone g.home) now → IsOpen (seated g g.past.made gone g.home) items now
open_seated g gone items views now o fit = record { there = o.there; away = o.away; paired = o.paired; owned = o.owned; stopper = o.stopper; made = o.made; fit = fit }

-- past the opening, the world
past_opening : (items : List CellStateSight) (views : List Knowledge) (id : ℕ) (v : Knowledge) → Holds items views → get_elem? views id ≡ some v → v.known ≡ true → (g : World) × IsOpen g items views
past_opening items views id v h at known =
    ⊎_elim (λ (o : (items ≡ []) × (views ≡ opener ∷ [])). off (sym (ap (λ (u : Knowledge). u.known) (only v views id o.1 at).1) ∙ known)) (λ (g : (g : World) × IsOpen g items views). g) h

pub begins : Holds [] (opener ∷ [])
begins = inl (refl, refl)

pub empties : (id : ℕ) (v : Knowledge) → (v.holding ≡ true) ⊎ (v.opening ≡ true) → Learns Holds id v IsEmpty
empties id v mine items views h at =
    ⊎_elim (λ (o : (items ≡ []) × (views ≡ opener ∷ [])). o.0)
    (λ (w : (g : World) × IsOpen g items views).
    let f = w.1.fit id v at in
    ⊎_elim (λ (m : v.holding ≡ true). w.1.away (f.holding m).free) (λ (m : v.opening ≡ true). off (sym f.opening ∙ m)) mine)
    h

-- what is put back is the cell state that is named, and the view is then the one that is named
pub pushed_as : (id : ℕ) (v w next : Knowledge) (d cell_state : CellStateSight) → cell_state ≡ d → next ≡ w → Pushes Holds 1 id v d (λ u. u ≡ w) → Pushes Holds 1 id v cell_state (λ u. u ≡ next)
pushed_as id v w next d cell_state is named h = subst (λ (y : CellStateSight × Knowledge). Pushes Holds 1 id v y.0 (λ u. u ≡ y.1)) (λ i. (sym is i, sym named i)) h

-- the opening
abbrev first_world : Config → ℕ → World
first_world config seats = record { past = record { config = config; seats = seats; entries = []; owners = []; over = false; stopper = 0; made = 0; ended = λ _. false }; home = λ _. 0; free = true; holder = 0; opener = 0 }

pub opens : (id : ℕ) (v : Knowledge) (config : Config) (seats : ℕ) → v.opening ≡ true → Pushes Holds 1 id v (cell_state_at config seats [] false) (λ w. w ≡ after_opening config seats)
opens id v config seats opening items views room h at =
    ⊎_elim
    (λ (o : (items ≡ []) × (views ≡ opener ∷ [])).
    let is = only v views id o.1 at in
    let w : Knowledge = after_opening config seats in (
      w,
      inr (
        first_world config seats,
        record {
          there = λ _. ap (λ (l : List CellStateSight). l ++ cell_state_at config seats [] false ∷ []) o.0;
          away = λ f. absurd (true≢false f);
          paired = refl;
          owned = All-nil (λ n. n < 0);
          stopper = λ f. off f;
          made = omega arith;
          fit = λ j u e. one u j (subst (λ (l : List Knowledge). get_elem? l j ≡ some u) (ap (λ (y : List Knowledge × ℕ). set y.0 y.1 w) (λ i. (o.1 i, is.0 i))) e);
        },
      ),
      refl,
    ))
    (λ (w : (g : World) × IsOpen g items views). off (sym (w.1.fit id v at).opening ∙ opening))
    h
  where
    one : (u : Knowledge) (j : ℕ) → get_elem? (after_opening config seats ∷ []) j ≡ some u → FitsWorld (first_world config seats) j u
    one u zero e = subst (FitsWorld (first_world config seats) 0) (some-injective (after_opening config seats) u e) (record {
      opening = refl;
      opens = λ _. (refl, refl);
      known = λ _. (refl, refl);
      live = λ f. off f;
      claims = λ f. off f;
      holding = λ f. off f;
    })
    one u (suc j) e = absurd (some-ne-none u (sym e))

below_more : (m n : ℕ) (os : List ℕ) → m ≤ n → AllBelow m os → AllBelow n os
below_more m n os le all k d lt = omega (arith, le, all k d lt)

-- what a view claims of a seat stays where that part of it stays
same_claims : (h : CellHistory) (u w : Knowledge) → w.number ≡ u.number → w.seen ≡ u.seen → w.stopped ≡ u.stopped → w.receipts ≡ u.receipts → w.stops ≡ u.stops → w.closed ≡ u.closed → Claims h u → Claims h w
same_claims h u w number seen stopped receipts stops closed c = record {
  made = subst (λ (n : ℕ). n < h.made) (sym number) c.made;
  seen = subst (λ (l : List Entry). IsPrefix l h.entries) (sym seen) c.seen;
  stopped = λ t. let k = c.stopped (sym stopped ∙ t) in (k.0, seen ∙ k.1);
  receipts = ap (map extract_of) receipts ∙ c.receipts ∙ ap (λ (n : ℕ). extracts_of h.config n h.owners h.entries) (sym number);
  stops = λ o n. subst (λ (k : ℕ). 0 < k) (sym stops) (c.stops o (sym number ∙ n));
  ended = closed ∙ c.ended ∙ ap h.ended (sym number);
}

-- the cell state is taken
pub takes : (id : ℕ) (v : Knowledge) → v.known ≡ true → v.holding ≡ false → Pops Holds id v (λ x w. IsStateTaken v x w)
takes id v known away x items views h at =
    let world = past_opening (x ∷ items) views id v h at known in
    let g : World = world.0 in
    let o : IsOpen g (x ∷ items) views = world.1 in
    ⊎_elim
    (λ (free : g.free ≡ true).
    let both : x ∷ items ≡ cell_state_at g.past.config g.past.seats g.past.entries g.past.over ∷ [] = o.there free in
    let is : x ≡ cell_state_at g.past.config g.past.seats g.past.entries g.past.over = cc in
    let none : items ≡ [] = cc in
    let f = o.fit id v at in
    let w : Knowledge = after_taking v x.log.entries x.stopped g.past.owners g.past.stopper in
    let all : x.log.entries ≡ g.past.entries = ap (λ (d : CellStateSight). d.log.entries) is in
    let over : x.stopped ≡ g.past.over = ap (λ (d : CellStateSight). d.stopped) is in
    let g' : World = record g { free = false; holder = id } in (
      w,
      inr (
        g',
        record {
          there = λ t. off t;
          away = λ _. none;
          paired = o.paired;
          owned = o.owned;
          stopper = o.stopper;
          made = o.made;
          fit = all_set (FitsWorld g') views id w
              (record {
                opening = f.opening;
                opens = f.opens;
                known = f.known;
                live = λ l. ((f.live l).0, same_claims g.past v w refl refl refl refl refl refl (f.live l).1);
                claims = λ l. ((f.claims l).0, same_claims g.past v w refl refl refl refl refl refl (f.claims l).1);
                holding = λ _. record { free = refl; holder = refl; all = all; owners = refl; over = over; stopper = refl };
              })
              (λ j u apart e. let k = o.fit j u e in record { opening = k.opening; opens = k.opens; known = k.known; live = k.live; claims = k.claims; holding = λ b. absurd (true≢false (sym free ∙ (k.holding b).free)) });
        },
      ),
      record {
        config = ap (λ (d : CellStateSight). d.log.config) is ∙ sym (f.known known).0;
        seats = ap (λ (d : CellStateSight). d.seats) is ∙ sym (f.known known).1;
        now = refl;
        paired = o.paired ∙ sym (ap length all);
        owned = subst (λ (n : ℕ). AllBelow n g.past.owners) (sym (f.known known).1) (below_more g.past.made g.past.seats g.past.owners o.made o.owned);
        stopper = λ t. let a = o.stopper (sym over ∙ t) in let b = o.made in let c = (f.known known).1 in omega arith;
        seen = λ l. subst (λ (y : List Entry). IsPrefix v.seen y) (sym all) (f.live l).1.seen;
        stopped = λ l s. over ∙ ((f.live l).1.stopped s).0;
      },
    ))
    (λ (taken : g.free ≡ false). let none = o.away taken in absurd (cc))
    (is_or_not g.free)

-- one entry more, by o
pub extracts_more : (config : Config) (before : List Entry) (by o : ℕ) (os : List ℕ) (e : Entry) (es : List Entry) → length os ≡ length es
    → extracts_from config before by (os ++ o ∷ []) (es ++ e ∷ []) ≡ extracts_from config before by os es ++ (if o == by then extract config (before ++ es) e ∷ [] else [])
extracts_more config before by o [] e [] len = append-nil (if o == by then extract config before e ∷ [] else []) ∙ ap (λ (l : List Entry). if o == by then extract config l e ∷ [] else []) (sym (append-nil before))
extracts_more config before by o [] e (f ∷ fs) len = absurd (omega arith)
extracts_more config before by o (p ∷ os) e [] len = absurd (omega arith)
extracts_more config before by o (p ∷ os) e (f ∷ fs) len =
    let head : List Extract = if p == by then extract config before f ∷ [] else [] in
    let rest : List Extract = extracts_from config (before ++ f ∷ []) by os fs in
    let at : (before ++ f ∷ []) ++ fs ≡ before ++ f ∷ fs = append_assoc before (f ∷ []) fs in
    ap (λ (l : List Extract). head ++ l) (extracts_more config (before ++ f ∷ []) by o os e fs (omega arith) ∙ ap (λ (k : List Entry). rest ++ (if o == by then extract config k e ∷ [] else [])) at)
    ∙ sym (append_assoc head rest (if o == by then extract config (before ++ f ∷ fs) e ∷ [] else []))

pub extracts_mine : (config : Config) (by : ℕ) (os : List ℕ) (e : Entry) (es : List Entry) → length os ≡ length es
    → extracts_of config by (os ++ by ∷ []) (es ++ e ∷ []) ≡ extracts_of config by os es ++ extract config es e ∷ []
extracts_mine config by os e es len =
    extracts_more config [] by by os e es len
    ∙ ap (λ (b : Bool). extracts_of config by os es ++ (if b then extract config es e ∷ [] else [])) (eq-eqb by by refl)

pub extracts_others : (config : Config) (by o : ℕ) (os : List ℕ) (e : Entry) (es : List Entry) → length os ≡ length es → o ≢ by
    → extracts_of config by (os ++ o ∷ []) (es ++ e ∷ []) ≡ extracts_of config by os es
extracts_others config by o os e es len apart =
    extracts_more config [] by o os e es len
    ∙ ap (λ (b : Bool). extracts_of config by os es ++ (if b then extract config es e ∷ [] else [])) (ne_eqb o by apart)
    ∙ append-nil (extracts_of config by os es)

abbrev grown : CellHistory → ℕ → Entry → CellHistory
grown h by e = record h { entries = h.entries ++ e ∷ []; owners = h.owners ++ by ∷ [] }

-- what is said of another seat stays, where there is no mark
others_grow : (h : CellHistory) (by : ℕ) (e : Entry) (u : Knowledge) → h.over ≡ false → length h.owners ≡ length h.entries → u.number ≢ by → Claims h u → Claims (grown h by e) u
others_grow h by e u running len apart c = record {
  made = c.made;
  seen = prefix_more u.seen h.entries e c.seen;
  stopped = λ t. off (sym running ∙ (c.stopped t).0);
  receipts = c.receipts ∙ sym (extracts_others h.config u.number by h.owners e h.entries len (λ same. apart (sym same)));
  stops = c.stops;
  ended = c.ended;
}

-- another seat that is live or noted has another number
another : (g : World) (id : ℕ) (v : Knowledge) (j : ℕ) (u : Knowledge) → HasCellState v → FitsWorld g id v → FitsWorld g j u → j ≢ id → (u.live ≡ true) ⊎ (u.claims ≡ true) → u.number ≢ v.number
another g id v j u s f k apart is same =
    ⊎_elim
    (λ (l : u.live ≡ true). apart ((k.live l).0 ∙ ap g.home same ∙ sym (f.live s.live).0))
    (λ (l : u.claims ≡ true). let c = k.claims l in off (sym s.closed ∙ (f.live s.live).1.ended ∙ ap g.past.ended (sym same) ∙ sym c.1.ended ∙ c.0))
    is

-- ---- the cell state comes back

-- the view of one who puts it back
abbrev back : Knowledge → List Entry → Bool → List AppliedEvent → List Denial → ℕ → Knowledge
back v seen stop receipts denials stops = record v { holding = false; seen = seen; stopped = stop; receipts = receipts; denials = denials; stops = stops }

-- what was done, with another journal or another mark
abbrev renewed : CellHistory → List Entry → List ℕ → Bool → ℕ → CellHistory
renewed h entries owners over stopper = record h { entries = entries; owners = owners; over = over; stopper = stopper }

-- the cell state with that history fits it, and so does what was claimed
record IsBack (past : CellHistory) (v : Knowledge) (x : CellStateSight) (w : Knowledge) (now : CellHistory) : Type 0 where
  cell_state : x ≡ cell_state_at now.config now.seats now.entries now.over
  paired : length now.owners ≡ length now.entries
  owned : AllBelow now.made now.owners
  stopper : now.over ≡ true → now.stopper < now.made
  mine : Claims now w
  others : (u : Knowledge) → u.number ≢ v.number → Claims past u → Claims now u

-- a seat puts the cell state back with what this makes of the history, if it fits whatever world is open
gives : (id : ℕ) (v : Knowledge) (x : CellStateSight) (seen : List Entry) (stop : Bool) (receipts : List AppliedEvent) (denials : List Denial) (stops : ℕ)
    (entries : CellHistory → List Entry) (owners : CellHistory → List ℕ) (over : CellHistory → Bool) (stopper : CellHistory → ℕ) → HasCellState v
    → ((g : World) (items : List CellStateSight) (views : List Knowledge) → IsOpen g items views → FitsWorld g id v → Has g id v → Claims g.past v
    → IsBack g.past v x (back v seen stop receipts denials stops) (renewed g.past (entries g.past) (owners g.past) (over g.past) (stopper g.past)))
    → Pushes Holds 1 id v x (λ w. w ≡ back v seen stop receipts denials stops)
gives id v x seen stop receipts denials stops entries owners over stopper s fits items views room h at =
    let world = past_opening items views id v h at s.known in
    let g : World = world.0 in
    let o : IsOpen g items views = world.1 in
    let f = o.fit id v at in
    let has = f.holding s.holding in
    let b = fits g items views o f has (f.live s.live).1 in
    let w : Knowledge = back v seen stop receipts denials stops in
    let g' : World = record g { past = renewed g.past (entries g.past) (owners g.past) (over g.past) (stopper g.past); free = true } in (
      w,
      inr (
        g',
        record {
          there = λ _. ap (λ (l : List CellStateSight). l ++ x ∷ []) (o.away has.free) ∙ ap (λ (y : CellStateSight). y ∷ []) b.cell_state;
          away = λ t. absurd (true≢false t);
          paired = b.paired;
          owned = b.owned;
          stopper = b.stopper;
          made = o.made;
          fit = all_set (FitsWorld g') views id w
              (record {
                opening = f.opening;
                opens = f.opens;
                known = f.known;
                live = λ _. ((f.live s.live).0, b.mine);
                claims = λ l. off (sym s.claims ∙ l);
                holding = λ l. off l;
              })
              (λ j u apart e.
              let k = o.fit j u e in record {
                opening = k.opening;
                opens = k.opens;
                known = k.known;
                live = λ l. ((k.live l).0, b.others u (another g id v j u s f k apart (inl l)) (k.live l).1);
                claims = λ l. ((k.claims l).0, b.others u (another g id v j u s f k apart (inr l)) (k.claims l).1);
                holding = λ l. absurd (apart ((k.holding l).holder ∙ sym has.holder));
              });
        },
      ),
      refl,
    )

pub adds : (id : ℕ) (v : Knowledge) (r : AppliedEvent) → HasCellState v → v.over ≡ false → extract_of r ≡ extract v.config v.all (receipt_entry r) → Pushes Holds 1 id v (cell_state_at v.config v.seats (v.all ++ receipt_entry r ∷ []) v.over) (λ w. w ≡ after_application v r)
adds id v r s running is =
    let e : Entry = receipt_entry r in
    gives id v (cell_state_at v.config v.seats (v.all ++ e ∷ []) v.over) (v.all ++ e ∷ []) v.over (v.receipts ++ r ∷ []) v.denials v.stops
    (λ past. past.entries ++ e ∷ []) (λ past. past.owners ++ v.number ∷ []) (λ past. past.over) (λ past. past.stopper) s
    (λ g items views o f has c.
    let past = g.past in record {
      cell_state = λ i. cell_state_at ((f.known s.known).0 i) ((f.known s.known).1 i) (has.all i ++ e ∷ []) (has.over i);
      paired = length-append past.owners (v.number ∷ []) ∙ ap (λ (n : ℕ). n + 1) o.paired ∙ sym (length-append past.entries (e ∷ []));
      owned = All-push (λ n. n < past.made) past.owners v.number o.owned c.made;
      stopper = o.stopper;
      mine = record {
        made = c.made;
        seen = ([], append-nil (v.all ++ e ∷ []) ∙ ap (λ (y : List Entry). y ++ e ∷ []) has.all);
        stopped = λ t. off (sym running ∙ t);
        receipts = map-append extract_of v.receipts (r ∷ []) ∙ ap (λ (l : List Extract). l ++ extract_of r ∷ []) c.receipts
            ∙ ap (λ (x : Extract). extracts_of past.config v.number past.owners past.entries ++ x ∷ []) (is ∙ (λ i. extract ((f.known s.known).0 i) (has.all i) e))
            ∙ sym (extracts_mine past.config v.number past.owners e past.entries o.paired);
        stops = c.stops;
        ended = c.ended;
      };
      others = λ u apart k. others_grow past v.number e u (sym has.over ∙ running) o.paired apart k;
    })

-- nothing was added, and the view has what else it wants
sees : (id : ℕ) (v : Knowledge) (denials : List Denial) → HasCellState v
    → Pushes Holds 1 id v (cell_state_at v.config v.seats v.all v.over) (λ w. w ≡ back v v.all v.over v.receipts denials v.stops)
sees id v denials s =
    gives id v (cell_state_at v.config v.seats v.all v.over) v.all v.over v.receipts denials v.stops
    (λ past. past.entries) (λ past. past.owners) (λ past. past.over) (λ past. past.stopper) s
    (λ g items views o f has c. record {
      cell_state = λ i. cell_state_at ((f.known s.known).0 i) ((f.known s.known).1 i) (has.all i) (has.over i);
      paired = o.paired;
      owned = o.owned;
      stopper = o.stopper;
      mine = record { made = c.made; seen = ([], append-nil v.all ∙ has.all); stopped = λ t. (sym has.over ∙ t, has.all); receipts = c.receipts; stops = c.stops; ended = c.ended };
      others = λ u apart k. k;
    })

pub denies : (id : ℕ) (v : Knowledge) (event : Event) (refusal : CellRefusal) → HasCellState v → Pushes Holds 1 id v (cell_state_at v.config v.seats v.all v.over) (λ w. w ≡ after_denial v event refusal)
denies id v event refusal s = sees id v (v.denials ++ denial event refusal (length v.all) ∷ []) s

-- nothing was done
pub looks : (id : ℕ) (v : Knowledge) → HasCellState v → Pushes Holds 1 id v (cell_state_at v.config v.seats v.all v.over) (λ w. w ≡ after_look v)
looks id v s = sees id v v.denials s

-- the stop mark is set
pub stops : (id : ℕ) (v : Knowledge) → HasCellState v → Pushes Holds 1 id v (cell_state_at v.config v.seats v.all true) (λ w. w ≡ after_stop v)
stops id v s =
    gives id v (cell_state_at v.config v.seats v.all true) v.all true v.receipts v.denials (suc v.stops)
    (λ past. past.entries) (λ past. past.owners) (λ past. true) (λ past. if past.over then past.stopper else v.number) s
    (λ g items views o f has c.
    let past = g.past in
    let made : (if past.over then past.stopper else v.number) < past.made = ⊎_elim
    (λ (t : past.over ≡ true). subst (λ (b : Bool). (if b then past.stopper else v.number) < past.made) (sym t) (o.stopper t))
    (λ (t : past.over ≡ false). subst (λ (b : Bool). (if b then past.stopper else v.number) < past.made) (sym t) c.made)
    (is_or_not past.over) in record {
      cell_state = λ i. cell_state_at ((f.known s.known).0 i) ((f.known s.known).1 i) (has.all i) true;
      paired = o.paired;
      owned = o.owned;
      stopper = λ _. made;
      mine = record { made = c.made; seen = ([], append-nil v.all ∙ has.all); stopped = λ t. (refl, has.all); receipts = c.receipts; stops = λ _ _. omega arith; ended = c.ended };
      others = λ u apart k. record {
        made = k.made;
        seen = k.seen;
        stopped = λ t. (refl, (k.stopped t).1);
        receipts = k.receipts;
        stops = λ _ n. ⊎_elim
            (λ (t : past.over ≡ true). k.stops t (n ∙ ap (λ (b : Bool). if b then past.stopper else v.number) t))
            (λ (t : past.over ≡ false). absurd (apart (n ∙ ap (λ (b : Bool). if b then past.stopper else v.number) t)))
            (is_or_not past.over);
        ended = k.ended;
      };
    })

-- where a view is set and another added
all_forked : (F : ℕ → Knowledge → Type 0) (views : List Knowledge) (id : ℕ) (w new : Knowledge) → F id w → F (length (set views id w)) new → ((j : ℕ) (u : Knowledge) → j ≢ id → get_elem? views j ≡ some u → F j u) → (j : ℕ) (u : Knowledge) → get_elem? (set views id w ++ new ∷ []) j ≡ some u → F j u
all_forked F views id w new mine theirs others j u e =
    ⊎_elim (λ was. all_set F views id w mine others j u was)
    (λ (x : (j ≡ length (set views id w)) × (new ≡ u)). subst (λ (y : ℕ × Knowledge). F y.0 y.1) (λ i. (sym x.0 i, x.1 i)) theirs)
    (at_end (set views id w) new u j e)

home_else : (home : ℕ → ℕ) (n k at : ℕ) → n < k → (if n == k then at else home n) ≡ home n
home_else home n k at lt = ap (λ (b : Bool). if b then at else home n) (ne_eqb n k (λ e. absurd (omega arith)))

none_yet : (config : Config) (before : List Entry) (n : ℕ) (os : List ℕ) (es : List Entry) → AllBelow n os → extracts_from config before n os es ≡ []
none_yet config before n [] es all = refl
none_yet config before n (o ∷ os) [] all = refl
none_yet config before n (o ∷ os) (e ∷ es) all =
    ap (λ (b : Bool). (if b then extract config before e ∷ [] else []) ++ extracts_from config (before ++ e ∷ []) n os es) (ne_eqb o n (λ (same : o ≡ n). let a = All-head (λ k. k < n) o os all in absurd (omega arith)))
    ∙ none_yet config (before ++ e ∷ []) n os es (All-tail (λ k. k < n) o os all)

pub sits : (id : ℕ) (v : Knowledge) → v.opens ≡ true → v.known ≡ true → v.live ≡ false → v.claims ≡ false → v.holding ≡ false → v.made < v.seats → Forks Holds id v (one_more v) (seat_of v)
sits id v opens known live claims holding room items views h at =
    let world = past_opening items views id v h at known in
    let g : World = world.0 in
    let o : IsOpen g items views = world.1 in
    let f = o.fit id v at in
    let made : v.made ≡ g.past.made = (f.opens opens).1 in
    let place : ℕ = length (set views id (one_more v)) in
    let gone : ℕ → Bool = λ n. if n == g.past.made then false else g.past.ended n in
    let home : ℕ → ℕ = λ n. if n == g.past.made then place else g.home n in
    let g' : World = seated g (suc g.past.made) gone home in
    let keeps : (u : Knowledge) → Claims g.past u → Claims g'.past u = λ u k. record {
      made = let a = k.made in omega arith;
      seen = k.seen;
      stopped = k.stopped;
      receipts = k.receipts;
      stops = k.stops;
      ended = k.ended ∙ sym (ap (λ (b : Bool). if b then false else g.past.ended u.number) (ne_eqb u.number g.past.made (λ e. let a = k.made in absurd (omega arith))));
    } in
    let same : seat_of v ≡ new_seat g.past.config g.past.seats g.past.made = λ i. new_seat ((f.known known).0 i) ((f.known known).1 i) (made i) in
    inr (
      g',
      record {
        there = o.there;
        away = o.away;
        paired = o.paired;
        owned = below_more g.past.made (suc g.past.made) g.past.owners (omega arith) o.owned;
        stopper = λ t. let a = o.stopper t in omega arith;
        made = let a = (f.known known).1 in omega arith;
        fit = all_forked (FitsWorld g') views id (one_more v) (seat_of v)
            (record {
              opening = f.opening;
              opens = λ _. ((f.opens opens).0, ap suc made);
              known = f.known;
              live = λ l. off (sym live ∙ l);
              claims = λ l. off (sym claims ∙ l);
              holding = λ l. off (sym holding ∙ l);
            })
            (record {
              opening = refl;
              opens = λ l. off l;
              known = λ _. f.known known;
              live = λ _. (
                sym (ap (λ (b : Bool). if b then place else g.home v.made) (eq-eqb v.made g.past.made made)),
                record {
                  made = omega arith;
                  seen = (g.past.entries, refl);
                  stopped = λ t. off t;
                  receipts = sym (none_yet g.past.config [] v.made g.past.owners g.past.entries (subst (λ (n : ℕ). AllBelow n g.past.owners) (sym made) o.owned));
                  stops = λ t n. let a = o.stopper t in absurd (omega arith);
                  ended = sym (ap (λ (b : Bool). if b then false else g.past.ended v.made) (eq-eqb v.made g.past.made made));
                },
              );
              claims = λ l. off l;
              holding = λ l. off l;
            })
            (λ j u apart e.
            let k = o.fit j u e in record {
              opening = k.opening;
              opens = λ l. absurd (apart ((k.opens l).0 ∙ sym (f.opens opens).0));
              known = k.known;
              live = λ l. let c = (k.live l).1 in ((k.live l).0 ∙ sym (home_else g.home u.number g.past.made place c.made), keeps u c);
              claims = λ l. ((k.claims l).0, keeps u (k.claims l).1);
              holding = λ l. has_seated g (suc g.past.made) gone home j u (k.holding l);
            });
      },
    )

-- a seat ends, and a note of it is made
pub ends : (id : ℕ) (v : Knowledge) → v.live ≡ true → v.claims ≡ false → v.holding ≡ false → v.opens ≡ false → v.known ≡ true → Forks Holds id v (after_end v) (note_of v)
ends id v live claims holding opens known items views h at =
    let world = past_opening items views id v h at known in
    let g : World = world.0 in
    let o : IsOpen g items views = world.1 in
    let f = o.fit id v at in
    let c = (f.live live).1 in
    let gone : ℕ → Bool = λ n. if n == v.number then true else g.past.ended n in
    let g' : World = seated g g.past.made gone g.home in
    let mine : (w : Knowledge) → w.number ≡ v.number → w.closed ≡ true → w.closed ≡ g'.past.ended w.number = λ w n t. t ∙ sym (ap (λ (b : Bool). if b then true else g.past.ended w.number) (eq-eqb w.number v.number n)) in
    let other : (u : Knowledge) → u.number ≢ v.number → Claims g.past u → Claims g'.past u = λ u apart k. record {
      made = k.made;
      seen = k.seen;
      stopped = k.stopped;
      receipts = k.receipts;
      stops = k.stops;
      ended = k.ended ∙ sym (ap (λ (b : Bool). if b then true else g.past.ended u.number) (ne_eqb u.number v.number apart));
    } in
    let note : (u : Knowledge) → u.closed ≡ true → Claims g.past u → Claims g'.past u = λ u t k. record {
      made = k.made;
      seen = k.seen;
      stopped = k.stopped;
      receipts = k.receipts;
      stops = k.stops;
      ended = elim (u.number == v.number) as (λ (b : Bool). u.closed ≡ (if b then true else g.past.ended u.number)) [ true ↦ t | false ↦ k.ended ];
    } in
    inr (
      g',
      open_seated g gone items views (set views id (after_end v) ++ note_of v ∷ []) o
          (all_forked (FitsWorld g') views id (after_end v) (note_of v)
          (record {
            opening = f.opening;
            opens = f.opens;
            known = f.known;
            live = λ l. ((f.live l).0, record { made = c.made; seen = c.seen; stopped = c.stopped; receipts = c.receipts; stops = c.stops; ended = mine (after_end v) refl refl });
            claims = λ l. off (sym claims ∙ l);
            holding = λ l. off (sym holding ∙ l);
          })
          (record {
            opening = f.opening;
            opens = λ l. off (sym opens ∙ l);
            known = f.known;
            live = λ l. off l;
            claims = λ l. (refl, record { made = c.made; seen = c.seen; stopped = c.stopped; receipts = c.receipts; stops = c.stops; ended = mine (note_of v) refl refl });
            holding = λ l. off (sym holding ∙ l);
          })
          (λ j u apart e.
          let k = o.fit j u e in record {
            opening = k.opening;
            opens = k.opens;
            known = k.known;
            live = λ l. ((k.live l).0, other u (λ same. apart ((k.live l).0 ∙ ap g.home same ∙ sym (f.live live).0)) (k.live l).1);
            claims = λ l. ((k.claims l).0, note u (k.claims l).0 (k.claims l).1);
            holding = λ l. has_seated g g.past.made gone g.home j u (k.holding l);
          })),
    )

-- a closer is made
pub closes : (id : ℕ) (v : Knowledge) → v.known ≡ true → Forks Holds id v v (closer_of v)
closes id v known items views h at =
    let world = past_opening items views id v h at known in
    let g : World = world.0 in
    let o : IsOpen g items views = world.1 in
    let f = o.fit id v at in
    inr (
      g,
      open_seated g g.past.ended items views (set views id v ++ closer_of v ∷ []) o
          (all_forked (FitsWorld g) views id v (closer_of v) f (fits_idle g (length (set views id v)) (closer_of v) refl refl refl refl refl (λ _. f.known known)) (λ j u apart e. o.fit j u e)),
    )

-- the closer takes a note in
pub shows : (id : ℕ) (v : Knowledge) (other : ℕ) (n : Knowledge) → v.known ≡ true → v.live ≡ false → v.opens ≡ false → n.claims ≡ true → Merges Holds id v other n (with_note v n) nothing_known
shows id v other n known live opens claims items views h at apart there =
    let world = past_opening items views id v h at known in
    let g : World = world.0 in
    let o : IsOpen g items views = world.1 in
    let f = o.fit id v at in
    let w : Knowledge = with_note v n in
    let was : get_elem? views other ≡ some n = ⊎_elim (λ (t : (other ≡ id) × (w ≡ n)). absurd (apart t.0)) (λ (t : (other ≢ id) × (get_elem? views other ≡ some n)). t.1) (at_set views id other w n there) in
    let k = (o.fit other n was).claims claims in
    let with_note : AllFit g (set views id w) = all_set (FitsWorld g) views id w
    (record {
      opening = f.opening;
      opens = λ l. off (sym opens ∙ l);
      known = f.known;
      live = λ l. off (sym live ∙ l);
      claims = λ _. (k.0, same_claims g.past n w refl refl refl refl refl refl k.1);
      holding = λ l. let m = f.holding l in record { free = m.free; holder = m.holder; all = m.all; owners = m.owners; over = m.over; stopper = m.stopper };
    })
    (λ j u _ e. o.fit j u e) in
    inr (
      g,
      open_seated g g.past.ended items views (set (set views id w) other nothing_known) o
          (all_set (FitsWorld g) (set views id w) other nothing_known (fits_idle g other nothing_known refl refl refl refl refl (λ l. off l)) (λ j u _ e. with_note j u e)),
    )

-- the cell state that the closer has agrees with the note
pub agrees : (id : ℕ) (v : Knowledge) → v.known ≡ true → v.holding ≡ true → v.claims ≡ true → Learns Holds id v (λ items. Agrees v)
agrees id v known holding claims items views h at =
    let world = past_opening items views id v h at known in
    let g : World = world.0 in
    let o : IsOpen g items views = world.1 in
    let f = o.fit id v at in
    let k = (f.claims claims).1 in
    let m = f.holding holding in
    record {
      seen = subst (λ (l : List Entry). IsPrefix v.seen l) (sym m.all) k.seen;
      stopped = λ t. let s = k.stopped t in (m.over ∙ s.0, s.1 ∙ sym m.all);
      receipts = k.receipts ∙ (λ i. extracts_of (sym (f.known known).0 i) v.number (sym m.owners i) (sym m.all i));
      stops = λ t n. k.stops (sym m.over ∙ t) (n ∙ m.stopper);
    }
