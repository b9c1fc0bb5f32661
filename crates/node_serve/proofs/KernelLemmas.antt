-- Maps by name, and bodies as the definitions see them.
use Rattle.std.proofs.Common.{◌≡◌, ◌≢◌, ◌∙◌, ℕ, Bool, true, false, nat_eq, [], ◌∷◌, map, Some, None, Result, Ok, Err, IfOk, refl, sym, ap, subst, arith, Ordering}
use Rattle.std.specs.Prelude.{if◌then◌else◌}
use Rattle.std.specs.Option.{option_map}
use Rattle.std.specs.Ordering.{nat_cmp, match_ordering}
use Rattle.std.specs.declared.cmp.Ordering.TheVariants.{Less, Equal, Greater}
use Rattle.pico_base.specs.declared.numbers.Name.{Name}
use Rattle.pico_base.specs.declared.numbers.Name.TheVariants.{Proc, Msg, Sem}
use Rattle.number_maps.specs.Maps.{Numbered, get, put}
use Rattle.number_maps.proofs.LookUps.{get-put-same, get-put-apart}
use Rattle.number_maps.proofs.Order.{same-from-nat_eq}
use Rattle.node_model.specs.Kinds.{Named, get_named, is_same_name, put_named}
use Rattle.node_model.specs.Bodies as model
use Rattle.node_serve.specs.declared.body.Body.{Body}
use Rattle.node_serve.specs.Bodies.{bodies_of, body_of, numbered_of}

-- options that hold the same hold equal things
pub some_same : {A : Type 0} (x y : A) → Some x ≡ Some y → x ≡ y
some_same x y h = cc

-- no is never yes, so anything follows from it
pub differ : {B : Type 0} → false ≡ true → B
differ h = absurd (cc)

flip : (a b : ℕ) → nat_eq a b ≡ false → nat_eq b a ≡ false
flip a b h = grind arith

-- ---- maps by name

-- under a name is what was put there last
pub named-same : {V : Type 0} (m : Named V) (name : Name) (v : V) → get_named (put_named m name v) name ≡ Some v
named-same m (Proc p) v = get-put-same m.processes p v
named-same m (Msg i) v = get-put-same m.queues i v
named-same m (Sem i) v = get-put-same m.sets i v

-- under any other name is what was there before
pub named-other : {V : Type 0} (m : Named V) (name other : Name) (v : V) → is_same_name name other ≡ false
    → get_named (put_named m name v) other ≡ get_named m other
named-other m (Proc p) (Proc q) v apart = get-put-apart m.processes p q v (flip p q apart)
named-other m (Proc p) (Msg q) v apart = refl
named-other m (Proc p) (Sem q) v apart = refl
named-other m (Msg p) (Proc q) v apart = refl
named-other m (Msg p) (Msg q) v apart = get-put-apart m.queues p q v (flip p q apart)
named-other m (Msg p) (Sem q) v apart = refl
named-other m (Sem p) (Proc q) v apart = refl
named-other m (Sem p) (Msg q) v apart = refl
named-other m (Sem p) (Sem q) v apart = get-put-apart m.sets p q v (flip p q apart)

-- names that the test finds the same are equal
pub same-name : (name other : Name) → is_same_name name other ≡ true → name ≡ other
same-name (Proc p) (Proc q) is = ap Proc (same-from-nat_eq p q is)
same-name (Proc p) (Msg q) is = differ is
same-name (Proc p) (Sem q) is = differ is
same-name (Msg p) (Proc q) is = differ is
same-name (Msg p) (Msg q) is = ap Msg (same-from-nat_eq p q is)
same-name (Msg p) (Sem q) is = differ is
same-name (Sem p) (Proc q) is = differ is
same-name (Sem p) (Msg q) is = differ is
same-name (Sem p) (Sem q) is = ap Sem (same-from-nat_eq p q is)

self : (name : Name) → is_same_name name name ≡ true
self (Proc p) = let e : nat_eq p p ≡ true = grind arith in e
self (Msg p) = let e : nat_eq p p ≡ true = grind arith in e
self (Sem p) = let e : nat_eq p p ≡ true = grind arith in e

-- and those that it tells apart aren't
pub apart-name : (name other : Name) → is_same_name name other ≡ false → other ≢ name
apart-name name other apart same =
    differ (sym (subst (λ (n : Name). is_same_name name n ≡ false) same apart) ∙ self name)

-- ---- bodies as the definitions see them

put-by : (k : ℕ) (v : Body) (e : ℕ × Body) (es : Numbered Body) (rest : Numbered Body) (o : Ordering)
    → numbered_of rest ≡ put (numbered_of es) k (body_of v)
    → numbered_of (match_ordering o ((k, v) ∷ e ∷ es) ((e.0, v) ∷ es) (e ∷ rest))
    ≡ match_ordering o ((k, body_of v) ∷ (e.0, body_of e.1) ∷ numbered_of es) ((e.0, body_of v) ∷ numbered_of es)
    ((e.0, body_of e.1) ∷ put (numbered_of es) k (body_of v))
put-by k v e es rest Less rec = refl
put-by k v e es rest Equal rec = refl
put-by k v e es rest Greater rec = ap (λ (xs : Numbered model.Body). (e.0, body_of e.1) ∷ xs) rec

-- a body that is put is put there, too
pub numbered-put : (m : Numbered Body) (k : ℕ) (v : Body) → numbered_of (put m k v) ≡ put (numbered_of m) k (body_of v)
numbered-put [] k v = refl
numbered-put (e ∷ es) k v = put-by k v e es (put es k v) (nat_cmp k e.0) (numbered-put es k v)

get-by : (k : ℕ) (e : ℕ × Body) (es : Numbered Body) (b : Bool)
    → get (numbered_of es) k ≡ option_map body_of (get es k)
    → (if b then Some (body_of e.1) else get (numbered_of es) k)
    ≡ option_map body_of (if b then Some e.1 else get es k)
get-by k e es true rec = refl
get-by k e es false rec = rec

pub numbered-get : (m : Numbered Body) (k : ℕ) → get (numbered_of m) k ≡ option_map body_of (get m k)
numbered-get [] k = refl
numbered-get (e ∷ es) k = get-by k e es _ (numbered-get es k)

-- a body that is put under a name is put there in the definitions' bodies, too
pub bodies-put : (m : Named Body) (name : Name) (v : Body)
    → bodies_of (put_named m name v) ≡ put_named (bodies_of m) name (body_of v)
bodies-put m (Proc p) v =
    ap (λ (x : Numbered model.Body). record (bodies_of m) { processes = x }) (numbered-put m.processes p v)
bodies-put m (Msg p) v =
    ap (λ (x : Numbered model.Body). record (bodies_of m) { queues = x }) (numbered-put m.queues p v)
bodies-put m (Sem p) v =
    ap (λ (x : Numbered model.Body). record (bodies_of m) { sets = x }) (numbered-put m.sets p v)

-- under each name the definitions' bodies have the held body, as the definitions see it
pub bodies-get : (m : Named Body) (name : Name) → get_named (bodies_of m) name ≡ option_map body_of (get_named m name)
bodies-get m (Proc p) = numbered-get m.processes p
bodies-get m (Msg p) = numbered-get m.queues p
bodies-get m (Sem p) = numbered-get m.sets p

-- what holds of a value that was handed on
pub if-ok : {X E : Type 0} (P Q : X → Type 0) (r : Result X E) → ((x : X) → P x → Q x) → IfOk r P → IfOk r Q
if-ok P Q (Ok x) f h = f x h
if-ok P Q (Err e) f h = tt
