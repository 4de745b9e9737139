-- An archive with one envelope more, and with some let go.
use Rattle.std.proofs.Common.{◌≡◌, ◌⊎◌, inl, inr, ℕ, zero, suc, ◌+◌, ◌<◌, ◌≤◌, Bool, true, false, List, [], ◌∷◌, ◌++◌, get_or, length, map, set, take, Option, Some, None, option_map, refl, sym, ◌∙◌, ap, subst, arith}
use Rattle.std.specs.Prelude.{IfSome}
use Rattle.std.specs.List.{All, slice_get}
use Rattle.std.proofs.lemmas.List.{set-get_or}
use Rattle.std.proofs.lemmas.List.Elements.{All-append, All-cons, All-nil, All-set}
use Rattle.scp_types.specs.Statements.{Sent}
use Rattle.node_store.specs.declared.filed.Filed.{Filed}
use Rattle.node_store.specs.Archives.{AreFiled, AreHeld, Archived, HoldsAll, IsFiled, IsHeld, Keeps, if_held, only_held, sent_of}

-- the same list, or one place more where nothing lies
abbrev pub IsGrown : {X : Type 0} → List (Option X) → List (Option X) → Type 0
IsGrown old new = (new ≡ old) ⊎ (new ≡ old ++ None ∷ [])

read-append : {X : Type 0} (xs ys : List X) (i : ℕ) (x : X) → slice_get xs i ≡ Some x → slice_get (xs ++ ys) i ≡ Some x
read-append [] ys i x h = cc
read-append (z ∷ xs) ys zero x h = h
read-append (z ∷ xs) ys (suc i) x h = read-append xs ys i x h

read-grown : {X : Type 0} (old new : List (Option X)) (i : ℕ) (x : Option X) → IsGrown old new → slice_get old i ≡ Some x → slice_get new i ≡ Some x
read-grown {X} old new i x (inl same) h = subst (λ (xs : List (Option X)). slice_get xs i ≡ Some x) (sym same) h
read-grown {X} old new i x (inr more) h = subst (λ (xs : List (Option X)). slice_get xs i ≡ Some x) (sym more) (read-append old (None ∷ []) i x h)

-- what lies elsewhere stays where something is put at a place where nothing lies
kept-set : {X : Type 0} (xs : List (Option X)) (n k : ℕ) (e : Option X) (x : X) → slice_get xs n ≡ Some None → slice_get xs k ≡ Some (Some x) → slice_get (set xs n e) k ≡ Some (Some x)
kept-set [] n k e x free h = absurd (cc)
kept-set (z ∷ xs) zero zero e x free h = absurd (cc)
kept-set (z ∷ xs) zero (suc k) e x free h = h
kept-set (z ∷ xs) (suc n) zero e x free h = h
kept-set (z ∷ xs) (suc n) (suc k) e x free h = kept-set xs n k e x free h

read-set : {X : Type 0} (xs : List X) (n : ℕ) (y x : X) → slice_get xs n ≡ Some y → slice_get (set xs n x) n ≡ Some x
read-set [] n y x h = absurd (cc)
read-set (z ∷ xs) zero y x h = refl
read-set (z ∷ xs) (suc n) y x h = read-set xs n y x h

-- ---- with whole envelopes
read-map : {X Y : Type 0} (f : X → Y) (xs : List X) (n : ℕ) (x : X) → slice_get xs n ≡ Some x → slice_get (map f xs) n ≡ Some (f x)
read-map f [] n x h = absurd (cc)
read-map f (z ∷ xs) zero x h = let q : z ≡ x = cc in ap (λ y. Some (f y)) q
read-map f (z ∷ xs) (suc n) x h = read-map f xs n x h

map-set : {X Y : Type 0} (f : X → Y) (xs : List X) (n : ℕ) (x : X) → map f (set xs n x) ≡ set (map f xs) n (f x)
map-set f [] n x = refl
map-set f (z ∷ xs) zero x = refl
map-set f (z ∷ xs) (suc n) x = ap (λ (ys : List _). f z ∷ ys) (map-set f xs n x)

map-grown : {X Y : Type 0} (f : X → Y) (old new : List (Option X)) → IsGrown old new → IsGrown (map (option_map f) old) (map (option_map f) new)
map-grown f old new (inl same) = inl (ap (map (option_map f)) same)
map-grown f old new (inr more) = inr (ap (map (option_map f)) more ∙ pushed old)
  where
    pushed : (xs : List (Option _)) → map (option_map f) (xs ++ None ∷ []) ≡ map (option_map f) xs ++ None ∷ []
    pushed [] = refl
    pushed (x ∷ xs) = ap (λ (ys : List (Option _)). option_map f x ∷ ys) (pushed xs)

-- one envelope more, at a number where nothing lies
pub filed-there : {P : Type 0} (f : P → Sent) (places : List (Option P)) (n : ℕ) (p : P) → slice_get places n ≡ Some None → slice_get (map (option_map f) (set places n (Some p))) n ≡ Some (Some (f p))
filed-there f places n p free = read-map (option_map f) (set places n (Some p)) n (Some p) (read-set places n None (Some p) free)

pub keeps-put : {P : Type 0} (f : P → Sent) (old places : List (Option P)) (n : ℕ) (p : P) → IsGrown old places → slice_get places n ≡ Some None → Keeps (map (option_map f) old) (map (option_map f) (set places n (Some p)))
keeps-put f old places n p grown free x h =
    subst (λ (xs : Archived). IsFiled xs x) (sym (map-set (option_map f) places n (Some p)))
    (kept-set (map (option_map f) places) n x.number (Some (f p)) x.put.value (read-map (option_map f) places n None free)
    (read-grown (map (option_map f) old) (map (option_map f) places) x.number (Some x.put.value) (map-grown f old places grown) h))

pub cleared : {P : Type 0} (f : P → Sent) (archive : Archived) (places : List (Option P)) (n : ℕ) → map (option_map f) places ≡ archive → map (option_map f) (set places n None) ≡ set archive n None
cleared f archive places n is = map-set (option_map f) places n None ∙ ap (λ (xs : Archived). set xs n None) is

pub all-put : {P : Type 0} (R : P → Type 0) (old places : List (Option P)) (n : ℕ) (p : P) → IsGrown old places → R p → All (λ o. IfSome o R) old → All (λ o. IfSome o R) (set places n (Some p))
all-put {P} R old places n p grown one all = All-set (λ (o : Option P). IfSome o R) places n (Some p) one (go grown)
  where
    go : IsGrown old places → All (λ o. IfSome o R) places
    go (inl same) = subst (λ (xs : List (Option P)). All (λ o. IfSome o R) xs) (sym same) all
    go (inr more) = subst (λ (xs : List (Option P)). All (λ o. IfSome o R) xs) (sym more) (All-append (λ o. IfSome o R) old (None ∷ []) all (All-cons (λ o. IfSome o R) None [] tt (All-nil (λ o. IfSome o R))))

pub all-kept : {P : Type 0} (R Q : P → Type 0) (old new : List (Option P)) → new ≡ old → ((p : P) → R p → Q p) → All (λ o. IfSome o R) old → All (λ o. IfSome o Q) new
all-kept {P} R Q old new same kept all = subst (λ (xs : List (Option P)). All (λ o. IfSome o Q) xs) (sym same) (λ k d l. one (get_or old k d) (all k d l))
  where
    one : (o : Option P) → IfSome o R → IfSome o Q
    one None h = tt
    one (Some p) h = kept p h

-- ---- what is let go
-- each number up to one has only what is held
go-on : (marks : List Bool) (xs : Archived) (k : ℕ) → k < length xs
    → set (only_held (take k marks) xs) k (if_held (get_or marks k true) (get_or (only_held (take k marks) xs) k None)) ≡ only_held (take (suc k) marks) xs
go-on marks [] k l = absurd (omega (arith, l))
go-on [] (x ∷ xs) zero l = refl
go-on [] (x ∷ xs) (suc k) l = set-get_or (x ∷ xs) (suc k) None
go-on (m ∷ marks) (x ∷ xs) zero l = refl
go-on (m ∷ marks) (x ∷ xs) (suc k) l = ap (λ (ys : Archived). if_held m x ∷ ys) (go-on marks xs k (omega (arith, l)))

pub gone-up-to : (marks : List Bool) (start now new : Archived) (k : ℕ) → k < length start → now ≡ only_held (take k marks) start
    → new ≡ set now k (if_held (get_or marks k true) (get_or now k None)) → new ≡ only_held (take (k + 1) marks) start
gone-up-to marks start now new k l is put =
    let z : suc k ≡ k + 1 = omega arith in
    put ∙ ap (λ (ys : Archived). set ys k (if_held (get_or marks k true) (get_or ys k None))) is ∙ go-on marks start k l ∙ ap (λ n. only_held (take n marks) start) z

pub all-gone : (marks : List Bool) (xs : Archived) (k : ℕ) → length xs ≤ k → only_held (take k marks) xs ≡ only_held marks xs
all-gone [] xs zero l = refl
all-gone [] xs (suc k) l = refl
all-gone (m ∷ marks) [] zero l = refl
all-gone (m ∷ marks) [] (suc k) l = refl
all-gone (m ∷ marks) (x ∷ xs) zero l = absurd (omega (arith, l))
all-gone (m ∷ marks) (x ∷ xs) (suc k) l = ap (λ (ys : Archived). if_held m x ∷ ys) (all-gone marks xs k (omega (arith, l)))

pub still-long : (marks : List Bool) (xs : Archived) → length (only_held marks xs) ≡ length xs
still-long [] xs = refl
still-long (m ∷ marks) [] = refl
still-long (m ∷ marks) (x ∷ xs) = ap suc (still-long marks xs)

-- at one number
pub keeps-at : (held : Bool) (archive : Archived) (n : ℕ) → held ≡ true → archive ≡ set archive n (if_held held (get_or archive n None))
keeps-at held archive n h = sym (ap (λ b. set archive n (if_held b (get_or archive n None))) h ∙ set-get_or archive n None)

pub frees-at : (held : Bool) (archive new : Archived) (n : ℕ) → new ≡ set archive n None → held ≡ false → new ≡ set archive n (if_held held (get_or archive n None))
frees-at held archive new n is h = is ∙ ap (λ b. set archive n (if_held b (get_or archive n None))) (sym h)

-- what is held stays
stays-at : (marks : List Bool) (archive : Archived) (n : ℕ) (e : Sent) → get_or marks n true ≡ true → slice_get archive n ≡ Some (Some e) → slice_get (only_held marks archive) n ≡ Some (Some e)
stays-at [] archive n e held h = h
stays-at (m ∷ marks) [] n e held h = absurd (cc)
stays-at (m ∷ marks) (x ∷ xs) zero e held h = ap (λ b. Some (if_held b x)) held ∙ h
stays-at (m ∷ marks) (x ∷ xs) (suc n) e held h = stays-at marks xs n e held h

pub stays-filed : (marks : List Bool) (archive : Archived) (f : Filed) → IsHeld marks f → IsFiled archive f → IsFiled (only_held marks archive) f
stays-filed marks archive f held h = stays-at marks archive f.number (sent_of f) held h

pub stay-filed : (marks : List Bool) (archive : Archived) (fs : List Filed) → AreHeld marks fs → AreFiled archive fs → AreFiled (only_held marks archive) fs
stay-filed marks archive fs held h = λ k d l. stays-filed marks archive (get_or fs k d) (held k d l) (h k d l)

-- ---- what is held
marked : (marks : List Bool) (n : ℕ) → get_or (set marks n true) n true ≡ true
marked [] n = refl
marked (m ∷ marks) zero = refl
marked (m ∷ marks) (suc n) = marked marks n

marked-still : (marks : List Bool) (n k : ℕ) → get_or marks k true ≡ true → get_or (set marks n true) k true ≡ true
marked-still [] n k h = h
marked-still (m ∷ marks) zero zero h = refl
marked-still (m ∷ marks) zero (suc k) h = h
marked-still (m ∷ marks) (suc n) zero h = h
marked-still (m ∷ marks) (suc n) (suc k) h = marked-still marks n k h

pub held-by : (marks new : List Bool) (f : Filed) → new ≡ set marks f.number true → IsHeld new f
held-by marks new f is = ap (λ (ms : List Bool). get_or ms f.number true) is ∙ marked marks f.number

pub held-still : (marks new : List Bool) (f : Filed) → new ≡ set marks f.number true → HoldsAll marks new
held-still marks new f is x h = ap (λ (ms : List Bool). get_or ms x.number true) is ∙ marked-still marks f.number x.number h

-- ---- what is kept
pub keeps_all : (old new : Archived) (fs : List Filed) → Keeps old new → AreFiled old fs → AreFiled new fs
keeps_all old new fs h all = λ k d l. h _ (all k d l)
