-- One emission more: its place and its mark.
use Rattle.std.proofs.Common.{◌≡◌, ℕ, suc, ◌+◌, ◌++◌, length, List, [], ◌∷◌, if◌then◌else◌, refl, sym, ◌∙◌, ap, arith, ◌<◌, get_or, drop, append_assoc}
use Rattle.std.proofs.lemmas.List.{map-append}
use Rattle.std.specs.Prelude.{zero, Option, Some, None, Vec, option_map, slice_get}
use Rattle.std.specs.Global.{Global}
use Rattle.std.specs.Borrow.{Bor}
use Rattle.scp_types.specs.declared.kind.Kind.{Kind}
use Rattle.scp_types.specs.declared.kind.Kind.TheVariants.{Nomination, Ballot}
use Rattle.scp_types.specs.declared.statement.Statement.{Statement}
use Rattle.scp_types.specs.Statements.{Sent, kind_of}
use Rattle.node_store.specs.declared.filed.Filed.{Filed}
use Rattle.node_store.specs.Archives.{sent_of, sents_of}
use Rattle.scp_spec.specs.Rows.{is_kind}
use Rattle.host_network.specs.Marks.{numbers_by_kind}
use Rattle.scp_spec.specs.Networks.{emissions}
use Rattle.node_core.specs.Filings.{whole_outs}
use Rattle.node_core.specs.declared.filed.FiledOut.{FiledOut}
use Rattle.node_core.specs.declared.filed.FiledOut.TheVariants.{ArmNomination, ArmBallot, Emit, Externalized}
use Rattle.std.proofs.Math.Seq.{drop-cons}
use Rattle.host_network.specs.FiledSlots.{HaveRoom}
use Rattle.host_network.specs.EmissionsByKind.{AreByKind, places_of_kind}
use Rattle.host_network.specs.declared.emission_log.PlacesByKind.{PlacesByKind}
use Rattle.host_network.proofs.EmissionsByKind.{count_of_kind, of_kind, places_next}

sents-length : (fs : List Filed) → length (sents_of fs) ≡ length fs
sents-length [] = refl
sents-length (f ∷ fs) = ap suc (sents-length fs)

noted : (kind k : Kind) (es : List Filed) (f : Filed) (places next : List ℕ) (at : ℕ) (all : List Filed)
    → k ≡ kind_of (sent_of f).body → at ≡ length es → places ≡ places_of_kind kind (sents_of es) → next ≡ places ++ (if is_kind kind k then at ∷ [] else []) → all ≡ es ++ f ∷ []
    → next ≡ places_of_kind kind (sents_of all)
noted kind k es f places next at all same length_is before more is =
    more
    ∙ (λ i. before i ++ (if is_kind kind (same i) then (length_is ∙ sym (sents-length es)) i ∷ [] else []))
    ∙ sym (places_next kind (sents_of es) (sent_of f))
    ∙ sym (ap (places_of_kind kind) (ap sents_of is ∙ map-append sent_of es (f ∷ [])))

-- the kind of what was filed, as it is read
pub kind-read : (k : Kind) (body : Statement) (e : Sent) (f : Filed) → k ≡ kind_of body → body ≡ e.body → e ≡ sent_of f → k ≡ kind_of (sent_of f).body
kind-read k body e f kind_is body_is read_is = kind_is ∙ ap kind_of (body_is ∙ ap (λ (x : Sent). x.body) read_is)

-- one emission more, at its place among those of its kind
pub by-kind : (old new : PlacesByKind) (k : Kind) (es all : List Filed) (f : Filed) (at : ℕ)
    → k ≡ kind_of (sent_of f).body → at ≡ length es → all ≡ es ++ f ∷ [] → AreByKind old (sents_of es)
    → new.nominations.items ≡ old.nominations.items ++ (if is_kind Nomination k then at ∷ [] else []) → new.ballots.items ≡ old.ballots.items ++ (if is_kind Ballot k then at ∷ [] else [])
    → AreByKind new (sents_of all)
by-kind old new k es all f at same length_is is before n b =
    (noted Nomination k es f old.nominations.items new.nominations.items at all same length_is before.0 n is, noted Ballot k es f old.ballots.items new.ballots.items at all same length_is before.1 b is)

pub counted : (k : Kind) (es : List Filed) (f : Filed) (places : PlacesByKind) (mark : ℕ)
    → k ≡ kind_of (sent_of f).body → AreByKind places (sents_of es) → mark ≡ (if is_kind Nomination k then length places.nominations.items else length places.ballots.items) + 1
    → mark ∷ [] ≡ numbers_by_kind (sents_of es) (sent_of f ∷ [])
unfolding numbers_by_kind
counted k es f places mark same by is = ap (λ m. m ∷ []) (go k is ∙ ap (λ j. suc (length (of_kind j (sents_of es)))) same)
  where
    go : (j : Kind) → mark ≡ (if is_kind Nomination j then length places.nominations.items else length places.ballots.items) + 1 → mark ≡ suc (length (of_kind j (sents_of es)))
    go Nomination h = let l = ap length by.0 ∙ count_of_kind Nomination (sents_of es) in omega (arith, h, l)
    go Ballot h = let l = ap length by.1 ∙ count_of_kind Ballot (sents_of es) in omega (arith, h, l)

-- marks one after another
pub numbered-joined : (emitted xs ys : List Sent) → numbers_by_kind emitted (xs ++ ys) ≡ numbers_by_kind emitted xs ++ numbers_by_kind (emitted ++ xs) ys
unfolding numbers_by_kind
numbered-joined emitted [] ys = sym (ap (λ ts. numbers_by_kind ts ys) (append-nil emitted))
  where
    append-nil : (ts : List Sent) → ts ++ [] ≡ ts
    append-nil [] = refl
    append-nil (t ∷ ts) = ap (λ us. t ∷ us) (append-nil ts)
numbered-joined emitted (x ∷ xs) ys = ap (λ ms. suc (length (of_kind (kind_of x.body) emitted)) ∷ ms) (numbered-joined (emitted ++ x ∷ []) xs ys ∙ ap (λ ts. numbers_by_kind (emitted ++ x ∷ []) xs ++ numbers_by_kind ts ys) (joined emitted))
  where
    joined : (ts : List Sent) → (ts ++ x ∷ []) ++ xs ≡ ts ++ x ∷ xs
    joined [] = refl
    joined (t ∷ ts) = ap (λ us. t ∷ us) (joined ts)

-- what was filed at a place is what was sent at that place
pub get-sent : (fs : List Filed) (k : ℕ) → slice_get (sents_of fs) k ≡ option_map sent_of (slice_get fs k)
get-sent [] k = refl
get-sent (f ∷ fs) zero = refl
get-sent (f ∷ fs) (suc k) = get-sent fs k

pub sent-at : (o : Option (Bor Filed)) (q : Option Filed) → option_map (λ f. f.now) o ≡ q → option_map (λ f. sent_of f.now) o ≡ option_map sent_of q
sent-at None q e = ap (option_map sent_of) e
sent-at (Some f) q e = ap (option_map sent_of) e

-- ---- outs one after another
first-out : (x : FiledOut) (xs : List FiledOut) → emissions (whole_outs (x ∷ xs)) ≡ emissions (whole_outs (x ∷ [])) ++ emissions (whole_outs xs)
first-out (ArmNomination r) xs = refl
first-out (ArmBallot n) xs = refl
first-out (Emit f) xs = refl
first-out (Externalized v) xs = refl

next-out : (outs : List FiledOut) (i : ℕ) (x : FiledOut) → i < length outs → x ≡ get_or outs i x → emissions (whole_outs (drop i outs)) ≡ emissions (whole_outs (x ∷ [])) ++ emissions (whole_outs (drop (i + 1) outs))
next-out outs i x l is =
    let z : suc i ≡ i + 1 = omega arith in
    ap (λ (os : List FiledOut). emissions (whole_outs os)) (drop-cons outs i x l ∙ (λ j. sym is j ∷ drop (z j) outs)) ∙ first-out x (drop (i + 1) outs)

pub emitted-more : (so sn start : List Sent) (outs : List FiledOut) (i : ℕ) (x : FiledOut) → i < length outs → x ≡ get_or outs i x
    → sn ≡ so ++ emissions (whole_outs (x ∷ [])) → so ++ emissions (whole_outs (drop i outs)) ≡ start → sn ++ emissions (whole_outs (drop (i + 1) outs)) ≡ start
emitted-more so sn start outs i x l is more before =
    let rest = emissions (whole_outs (drop (i + 1) outs)) in
    ap (λ ts. ts ++ rest) more ∙ append_assoc so (emissions (whole_outs (x ∷ []))) rest ∙ sym (ap (λ ts. so ++ ts) (next-out outs i x l is)) ∙ before

pub marks-more : (so sn : List Sent) (mo mn start : List ℕ) (outs : List FiledOut) (i : ℕ) (x : FiledOut) → i < length outs → x ≡ get_or outs i x
    → sn ≡ so ++ emissions (whole_outs (x ∷ [])) → mn ≡ mo ++ numbers_by_kind so (emissions (whole_outs (x ∷ []))) → mo ++ numbers_by_kind so (emissions (whole_outs (drop i outs))) ≡ start
    → mn ++ numbers_by_kind sn (emissions (whole_outs (drop (i + 1) outs))) ≡ start
marks-more so sn mo mn start outs i x l is more marked before =
    let first = emissions (whole_outs (x ∷ [])) in
    let rest = emissions (whole_outs (drop (i + 1) outs)) in
    (λ j. marked j ++ numbers_by_kind (more j) rest)
    ∙ append_assoc mo (numbers_by_kind so first) (numbers_by_kind (so ++ first) rest)
    ∙ sym (ap (λ ms. mo ++ ms) (ap (numbers_by_kind so) (next-out outs i x l is) ∙ numbered-joined so first rest))
    ∙ before

sents-joined : (xs ys : List Sent) → length (xs ++ ys) ≡ length xs + length ys
sents-joined [] ys = omega arith
sents-joined (x ∷ xs) ys = let h = sents-joined xs ys in omega (arith, h)

pub fewer : (outs : List FiledOut) (i : ℕ) (x : FiledOut) → i < length outs → x ≡ get_or outs i x → length (emissions (whole_outs (drop i outs))) ≡ length (emissions (whole_outs (x ∷ []))) + length (emissions (whole_outs (drop (i + 1) outs)))
fewer outs i x l is = ap length (next-out outs i x l is) ∙ sents-joined (emissions (whole_outs (x ∷ []))) (emissions (whole_outs (drop (i + 1) outs)))

-- room for some of them
pub room-for : (count some rest : ℕ) (emitted : Vec Filed Global) (places : PlacesByKind) (marks : Vec ℕ Global) → count ≡ some + rest → HaveRoom count emitted places marks → HaveRoom some emitted places marks
room-for count some rest emitted places marks is room =
    let a = room.emissions in
    let b = room.nominations_room in
    let c = room.ballots_room in
    let d = room.marks_room in
    record { emissions = omega (arith, is, a); nominations_room = omega (arith, is, b); ballots_room = omega (arith, is, c); marks_room = omega (arith, is, d) }
