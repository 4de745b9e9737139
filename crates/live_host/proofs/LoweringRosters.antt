-- Lines that declare rosters and nodes: what is declared once they are lowered.
use Rattle.std.specs.Prelude.{◌≡◌, ◌^◌, ◌++◌, ◌∷◌, [], ℕ, List, codes, Option, Some, None, option_map}
use Rattle.std.proofs.Common.{◌∙◌, refl, sym, ap, subst, arith, inl, inr}
use Rattle.scp_spec.specs.Rosters.{Shares}
use Rattle.host_config.specs.declared.roster.Reservation.{Reservation}
use Rattle.scp_types.specs.Trees.{Slices}
use Rattle.line_script.specs.Script.{AreFields, Bytes}
use Rattle.line_script.specs.Words.{word_counter, word_number}
use Rattle.live_feed.specs.Lasting.{lowered, lowered_word, lowered_words}
use Rattle.live_feed.specs.declared.answering.Drawn.{Drawn}
use Rattle.line_request.specs.Asking.{IsAskedOf}
use Rattle.line_request.specs.Forms.{form_in}
use Rattle.line_request.specs.Requests.{IsRequestOf, IsReserved, number_behind, only_names, shares_in}
use Rattle.line_request.specs.declared.ask.Ask.TheVariants as ask
use Rattle.line_request.specs.declared.form.Form.TheVariants as form
use Rattle.line_request.specs.declared.request.Declaration.{Declaration}
use Rattle.line_request.specs.declared.request.Declaration.TheVariants as declaration
use Rattle.line_request.specs.declared.request.Request.TheVariants as request
use Rattle.line_request.specs.declared.verbs.Verb.TheVariants as verb
use Rattle.live_host.specs.Lowering.{AsksToDeclare, LoweredLinesDeclareLess, NodeLinesStay, less_reservation}
use Rattle.live_host.proofs.LoweringAsked.{HasParts, IsScriptOf, VerbWord, asks-script, has-parts, its-fields, its-fields-served, its-request, its-word, kind_of, net-form}
use Rattle.live_host.proofs.LoweringNets.{is-behind, lowered-net, some-then}
use Rattle.live_host.proofs.LoweringWords.{lowered-fields-are, lowered-number, same-number}

some-mapped : {A B : Type 0} (f : A → B) (o : Option A) (y : B) → option_map f o ≡ Some y
    → (x : A) × (o ≡ Some x) × (f x ≡ y)
some-mapped f None y e = cc
some-mapped f (Some x) y e = (x, refl, cc)

-- ---- shares
abbrev share-fields : Bytes → Bytes → Bytes → Bytes → List Bytes → List Bytes
share-fields own pair bytes opens more =
    codes "own" ∷ own ∷ codes "pair" ∷ pair ∷ codes "bytes" ∷ bytes ∷ codes "opens" ∷ opens ∷ more

record SpellsShares (s : Shares) (fields more : List Bytes) : Type 0 where
  own : Bytes
  pair : Bytes
  bytes : Bytes
  opens : Bytes
  are : fields ≡ share-fields own pair bytes opens more
  is_own : word_number (2 ^ 64) own ≡ Some s.own
  is_pair : word_number (2 ^ 64) pair ≡ Some s.pair
  is_bytes : word_number (2 ^ 64) bytes ≡ Some s.bytes
  is_opens : word_number (2 ^ 64) opens ≡ Some s.opens

shares-spelled : (fields : List Bytes) (w : Shares × List Bytes) → shares_in fields ≡ Some w
    → SpellsShares w.0 fields w.1
shares-spelled fields w read =
    let one = some-then _ (number_behind (codes "own") fields) w read in
    let two = some-then _ (number_behind (codes "pair") one.0.1) w one.2 in
    let three = some-then _ (number_behind (codes "bytes") two.0.1) w two.2 in
    let four = some-mapped _ (number_behind (codes "opens") three.0.1) w three.2 in
    let own = is-behind (codes "own") one.0.0 fields one.0.1 one.1 in
    let pair = is-behind (codes "pair") two.0.0 one.0.1 two.0.1 two.1 in
    let bytes = is-behind (codes "bytes") three.0.0 two.0.1 three.0.1 three.1 in
    let opens = is-behind (codes "opens") four.0.0 three.0.1 four.0.1 four.1 in
    subst (λ (v : Shares × List Bytes). SpellsShares v.0 fields v.1) four.2
    (record {
      own = own.number;
      pair = pair.number;
      bytes = bytes.number;
      opens = opens.number;
      are = own.are
          ∙ ap (λ fs. codes "own" ∷ own.number ∷ fs)
          (pair.are
          ∙ ap (λ fs. codes "pair" ∷ pair.number ∷ fs)
          (bytes.are ∙ ap (λ fs. codes "bytes" ∷ bytes.number ∷ fs) opens.are));
      is_own = own.is;
      is_pair = pair.is;
      is_bytes = bytes.is;
      is_opens = opens.is;
    })

shares-read : (own pair bytes opens : Bytes) (more : List Bytes) (s : Shares) → word_number (2 ^ 64) own ≡ Some s.own
    → word_number (2 ^ 64) pair ≡ Some s.pair → word_number (2 ^ 64) bytes ≡ Some s.bytes
    → word_number (2 ^ 64) opens ≡ Some s.opens
    → shares_in (share-fields own pair bytes opens more) ≡ Some (s, more)
shares-read own pair bytes opens more s o p b n = rw (o, p, b, n) refl

-- ---- lines of rosters and nodes
-- a line that declares anything but a network is one of scripts
script-parts : (g : ℕ) (x : Declaration) (fields : List Bytes)
    → ((word : Bytes) → VerbWord (kind_of x) word → word ≡ codes "net" → ⊥) → IsAskedOf fields (Some (g, ask.Declare x))
    → HasParts g x fields
script-parts g x fields other asked = step (asks-script g x fields asked)
  where
    step : IsScriptOf g x fields → HasParts g x fields
    step (inl (before, is, e, h)) =
        let parts = has-parts g x before h in
        let whole = its-fields-served g x fields parts parts.word refl e in
        absurd
        (other parts.word (its-word g x parts)
        (net-form parts.word (parts.number ∷ (parts.rest ++ codes "served" ∷ [])) (subst (λ fs. form_in fs ≡ form.Net) whole is)))
    step (inr (none, h)) = has-parts g x fields h

stays-by-parts : (d : Drawn) (line : Bytes) (g u : ℕ) (q : Slices) (fields : List Bytes) → AreFields line fields
    → HasParts g (declaration.Node u q) fields → lowered d line ≡ line
unfolding lowered
stays-by-parts d line g u q fields are parts =
    let x : Declaration = declaration.Node u q in
    let of = subst (AreFields line) (its-fields g x parts (codes "node") (its-word g x parts)) are in
    subst (λ t. lowered d t ≡ t) of.0 refl

pub node_lines_stay : NodeLinesStay
node_lines_stay d line g u q (fields, are, asked) =
    stays-by-parts d line g u q fields are
    (script-parts g (declaration.Node u q) fields (λ word is net. let same = sym is ∙ net in cc) asked)

abbrev roster-fields : Bytes → List Bytes → List Bytes
roster-fields number shares = codes "roster" ∷ number ∷ shares

record SpellsRoster (g : ℕ) (r : Reservation) (fields : List Bytes) : Type 0 where
  number : Bytes
  is_number : word_counter number ≡ Some g
  shares : List Bytes
  more : List Bytes
  spelled : SpellsShares r.shares shares more
  names : only_names more ≡ Some r.names.items
  are : fields ≡ roster-fields number shares

roster-by-parts : (g : ℕ) (r : Reservation) (fields : List Bytes) → HasParts g (declaration.Roster r) fields
    → SpellsRoster g r fields
roster-by-parts g r fields parts =
    step (shares_in parts.rest) refl (its-request g (declaration.Roster r) parts)
    (its-fields g (declaration.Roster r) parts (codes "roster") (its-word g (declaration.Roster r) parts))
  where
    step : (o : Option (Shares × List Bytes)) → shares_in parts.rest ≡ o
        → IsReserved o (request.Declare (declaration.Roster r)) → fields ≡ roster-fields parts.number parts.rest
        → SpellsRoster g r fields
    step None is h are = absurd h
    step (Some w) is (s, names, shares, e) are =
        let same : s ≡ r = cc in
        let spelled = shares-spelled parts.rest w is in record {
          number = parts.number;
          is_number = parts.is_number;
          shares = parts.rest;
          more = w.1;
          spelled = subst (λ v. SpellsShares v parts.rest w.1) (sym shares ∙ ap (λ v. v.shares) same) spelled;
          names = names ∙ ap (λ v. Some v.names.items) same;
          are = are;
        }

roster-spelled : (g : ℕ) (r : Reservation) (fields : List Bytes)
    → IsAskedOf fields (Some (g, ask.Declare (declaration.Roster r))) → SpellsRoster g r fields
roster-spelled g r fields asked =
    roster-by-parts g r fields
    (script-parts g (declaration.Roster r) fields (λ word is net. let same = sym is ∙ net in cc) asked)

roster-asked : (g : ℕ) (r : Reservation) (number own pair bytes opens : Bytes) (more : List Bytes)
    → word_counter number ≡ Some g → word_number (2 ^ 64) own ≡ Some r.shares.own
    → word_number (2 ^ 64) pair ≡ Some r.shares.pair → word_number (2 ^ 64) bytes ≡ Some r.shares.bytes
    → word_number (2 ^ 64) opens ≡ Some r.shares.opens → only_names more ≡ Some r.names.items
    → IsAskedOf (roster-fields number (share-fields own pair bytes opens more)) (Some (g, ask.Declare (declaration.Roster r)))
roster-asked g r number own pair bytes opens more is o p b n names =
    let rest : List Bytes = share-fields own pair bytes opens more in
    let asks : IsReserved (shares_in rest) (request.Declare (declaration.Roster r)) =
    subst (λ x. IsReserved x (request.Declare (declaration.Roster r)))
    (sym (shares-read own pair bytes opens more r.shares o p b n)) (r, names, refl, refl) in
    let of : IsRequestOf (Some verb.Roster) (word_counter number) rest (Some (g, request.Declare (declaration.Roster r))) =
    subst (λ x. IsRequestOf (Some verb.Roster) x rest (Some (g, request.Declare (declaration.Roster r)))) (sym is)
    (Some (request.Declare (declaration.Roster r)), asks, refl) in
    (Some (g, request.Declare (declaration.Roster r)), of, refl)

lowered-roster : (d : Drawn) (line : Bytes) (g : ℕ) (r : Reservation) → AsksToDeclare line g (declaration.Roster r)
    → AsksToDeclare (lowered d line) g (declaration.Roster (less_reservation d r))
unfolding lowered
lowered-roster d line g r (fields, are, asked) =
    let roster = roster-spelled g r fields asked in
    let spelled = roster.spelled in
    let before : List Bytes =
    roster-fields roster.number (share-fields spelled.own spelled.pair spelled.bytes spelled.opens roster.more) in
    let of = subst (AreFields line) (roster.are ∙ ap (roster-fields roster.number) spelled.are) are in
    let bys : List ℕ = 0 ∷ 0 ∷ 0 ∷ 0 ∷ 0 ∷ 0 ∷ 0 ∷ 0 ∷ 0 ∷ d.opens ∷ [] in
    let same : lowered d line ≡ lowered_words bys line = subst (λ t. lowered d t ≡ lowered_words bys t) of.0 refl in
    let after : List Bytes =
    roster-fields (lowered_word 0 roster.number)
    (share-fields (lowered_word 0 spelled.own) (lowered_word 0 spelled.pair) (lowered_word 0 spelled.bytes)
    (lowered_word d.opens spelled.opens) roster.more) in
    let less = lowered-fields-are bys line before of in (
      after,
      subst (λ t. AreFields t after) (sym same) less,
      roster-asked g (less_reservation d r) (lowered_word 0 roster.number)
          (lowered_word 0 spelled.own) (lowered_word 0 spelled.pair) (lowered_word 0 spelled.bytes)
          (lowered_word d.opens spelled.opens) roster.more (same-number (2 ^ 32) g roster.number (omega arith) roster.is_number)
          (same-number (2 ^ 64) r.shares.own spelled.own (omega arith) spelled.is_own)
          (same-number (2 ^ 64) r.shares.pair spelled.pair (omega arith) spelled.is_pair)
          (same-number (2 ^ 64) r.shares.bytes spelled.bytes (omega arith) spelled.is_bytes)
          (lowered-number d.opens (2 ^ 64) r.shares.opens spelled.opens (omega arith) spelled.is_opens) roster.names,
    )

pub lowered_lines_declare_less : LoweredLinesDeclareLess
lowered_lines_declare_less d line g (declaration.Net b) asks = lowered-net d line g b asks
lowered_lines_declare_less d line g (declaration.Node u q) asks =
    subst (λ t. AsksToDeclare t g (declaration.Node u q)) (sym (node_lines_stay d line g u q asks)) asks
lowered_lines_declare_less d line g (declaration.Roster r) asks = lowered-roster d line g r asks
