use Rattle.std.proofs.Common.{◌≡◌, ◌∙◌, ℕ, Bool, true, false, ◌&&◌, List, [], ◌∷◌, ◌++◌, Option, Some, refl, sym, ap, subst}
use Rattle.std.specs.List.{list_any}
use Rattle.pico_base.specs.declared.call.Call.TheVariants.{Exit}
use Rattle.pico_base.specs.declared.numbers.Name.{Name}
use Rattle.pico_base.specs.declared.numbers.Name.TheVariants.{Proc}
use Rattle.pico_base.specs.declared.reply.Ending.{Ending as Ends}
use Rattle.pico_base.specs.declared.reply.Ending.TheVariants.{Exited, Killed}
use Rattle.pico_base.specs.declared.signal.Sig.TheVariants.{Term}
use Rattle.rpc_frame.specs.declared.deed.PackedDeed.{PackedDeed}
use Rattle.rpc_frame.specs.declared.deed.Parcel.{Parcel}
use Rattle.node_model.specs.Kinds.{is_same_name, number_of}
use Rattle.node_model.specs.Bodies as model
use Rattle.node_model.specs.Bodies.{is_living_body}
use Rattle.node_model.specs.Parcels.{has_own_row}
use Rattle.node_model.specs.Spelling.{read_deed}
use Rattle.deed_box.specs.Packing.{IsPackedDeed}
use Rattle.node_serve.specs.declared.body.Body.{Body}
use Rattle.node_serve.specs.declared.body.Body.TheVariants.{Living, Ended, Gone, Queue, Set, Removed}
use Rattle.node_serve.specs.Bodies.{body_of}
use Rattle.node_serve.specs.Ending.{fits_as_read, may_be_read, rise}
use Rattle.node_serve.specs.Spelled.{IsSpelled, suits}
use Rattle.node_serve.proofs.Reading.{deed-read}
use Rattle.serve_tests.proofs.tests.bodies.parcel_of.Goals as goal

own-row : (body : Body) → is_living_body (body_of body) ≡ true → has_own_row (Exit 263) (Some (body_of body)) ≡ true
own-row (Living row) h = refl
own-row (Ended e) h = absurd (cc)
own-row Gone h = absurd (cc)
own-row (Queue q) h = absurd (cc)
own-row (Set s) h = absurd (cc)
own-row Removed h = absurd (cc)

parcel : List PackedDeed → Parcel
parcel deeds = record { pid = 2; parent = 1; call = Exit 263; deeds = deeds }

-- what a deed of this name and body makes of its test
tested : (number : ℕ) (body : Body) (packed : PackedDeed) (deeds : List PackedDeed)
    → IsPackedDeed suits IsSpelled (Proc number, body) packed
    → may_be_read (parcel deeds) packed.name (read_deed packed)
    ≡ may_be_read (parcel deeds) (Proc number) (Some (body_of body))
tested number body packed deeds is =
    ap (λ (name : Name). may_be_read (parcel deeds) name (read_deed packed)) is.name
    ∙ ap (may_be_read (parcel deeds) (Proc number)) (deed-read (Proc number, body) packed is)

fits-by : (k l m n : Name) (s t u v : Bool) → k ≡ Proc 2 → l ≡ Proc 3 → m ≡ Proc 4 → n ≡ Proc 5 → s ≡ true → t ≡ true
    → u ≡ true → v ≡ true
    → (rise (number_of k ∷ number_of l ∷ number_of m ∷ number_of n ∷ [])
    && (list_any (is_same_name (Proc 2)) (k ∷ l ∷ m ∷ n ∷ []) && (s && (t && (u && (v && true)))))) ≡ true
fits-by k l m n s t u v first second third fourth a b c d =
    rw (first, second, third, fourth, a, b, c, d) refl

fits-four : (own : Body) (a b c d : PackedDeed) (x y : Ends) → is_living_body (body_of own) ≡ true
    → IsPackedDeed suits IsSpelled (Proc 2, own) a → IsPackedDeed suits IsSpelled (Proc 3, Ended x) b
    → IsPackedDeed suits IsSpelled (Proc 4, Ended y) c → IsPackedDeed suits IsSpelled (Proc 5, Gone) d
    → fits_as_read (parcel (a ∷ b ∷ c ∷ d ∷ [])) ≡ true
unfolding parcel
fits-four own a b c d x y lives first second third fourth =
    let all : List PackedDeed = a ∷ b ∷ c ∷ d ∷ []
    in fits-by a.name b.name c.name d.name (may_be_read (parcel all) a.name (read_deed a))
    (may_be_read (parcel all) b.name (read_deed b)) (may_be_read (parcel all) c.name (read_deed c))
    (may_be_read (parcel all) d.name (read_deed d)) first.name second.name third.name fourth.name
    (tested 2 own a all first ∙ own-row own lives) (tested 3 (Ended x) b all second) (tested 4 (Ended y) c all third)
    (tested 5 Gone d all fourth)

pub returns-clause-fits : goal.returns-clause-fits
unfolding parcel
returns-clause-fits c =
    let all : c.from_vec.result ≡ c.in_ok-create_packed.field-0 ∷ c.in_ok-ended.field-0
    ∷ c.in_ok-ended-2.field-0 ∷ c.in_ok-create_packed-2.field-0 ∷ [] =
    rw (
      c.from_vec.ensures,
      c.in_ok-push-4.ensures.items,
      c.in_ok-push-3.ensures.items,
      c.in_ok-push-2.ensures.items,
      c.in_ok-push.ensures.items,
      c.new-deeds.ensures.items,
    ) refl
    in subst (λ (deeds : List PackedDeed). fits_as_read (parcel deeds) ≡ true) (sym all)
    (fits-four c.args.own.now c.in_ok-create_packed.field-0 c.in_ok-ended.field-0
    c.in_ok-ended-2.field-0 c.in_ok-create_packed-2.field-0 (Exited 1) (Killed Term) c.requires
    c.in_ok-create_packed.ensures c.in_ok-ended.ensures c.in_ok-ended-2.ensures
    c.in_ok-create_packed-2.ensures)
