-- All that is held goes with its names, and is handed over as the machine's rule says.
use Rattle.std.proofs.Common.{◌≡◌, ◌∙◌, ℕ, Bool, true, false, ◌&&◌, List, [], ◌∷◌, ◌++◌, map, refl, ap}
use Rattle.std.proofs.lemmas.List.{map-append}
use Rattle.pico_base.specs.declared.call.Call.{Call}
use Rattle.pico_base.specs.declared.numbers.Name.{Name}
use Rattle.pico_base.specs.declared.numbers.Name.TheVariants.{Proc, Msg, Sem}
use Rattle.rpc_frame.specs.declared.deed.PackedDeed.{PackedDeed}
use Rattle.rpc_frame.specs.declared.frame.Frame.{Frame}
use Rattle.number_maps.specs.Maps.{Numbered}
use Rattle.node_model.specs.Kinds.{Named}
use Rattle.node_model.specs.Spelling.{pack}
use Rattle.node_model.specs.Parcels.{give_all, pack_all}
use Rattle.deed_box.specs.Deeds.{all_deeds, deeds_of}
use Rattle.deed_box.specs.Packing.{AllFit, ArePackedDeeds, IsPackedDeed}
use Rattle.exit_handover.specs.Giving.{HandsOver, hand_over}
use Rattle.node_serve.specs.declared.body.Body.{Body}
use Rattle.node_serve.specs.Bodies.{bodies_of, body_of, numbered_of}
use Rattle.node_serve.specs.Spelled.{IsSpelled, suits}
use Rattle.node_serve.proofs.ReadTaken.{spelled-read}
use Rattle.move_rules.specs.Handing.{all_kinds_suit, all_suit}

-- ---- all bodies go with their names

both : (a b : Bool) → (a && b) ≡ true → (a ≡ true) × (b ≡ true)
both true b h = (refl, h)
both false b h = absurd (cc)

kind-fits : (name : ℕ → Name) (entries : Numbered Body) → all_suit name entries ≡ true
    → AllFit suits (deeds_of name entries)
kind-fits name [] h = tt
kind-fits name (e ∷ entries) h =
    let parts = both (suits e.1 (name e.0)) (all_suit name entries) h
    in (parts.0, kind-fits name entries parts.1)

fits-append : (ds es : List (Name × Body)) → AllFit suits ds → AllFit suits es → AllFit suits (ds ++ es)
fits-append [] es a b = b
fits-append (d ∷ ds) es a b = (a.0, fits-append ds es a.1 b)

-- the bodies of each kind do, so all do
pub all-fit : (held : Named Body) → all_kinds_suit held ≡ true → AllFit suits (all_deeds held)
all-fit held h =
    let queues = both (all_suit Msg held.queues) (all_suit Sem held.sets && all_suit Proc held.processes) h
    in let sets = both (all_suit Sem held.sets) (all_suit Proc held.processes) queues.1
    in fits-append (deeds_of Msg held.queues ++ deeds_of Sem held.sets) (deeds_of Proc held.processes)
    (fits-append (deeds_of Msg held.queues) _ (kind-fits Msg held.queues queues.0) (kind-fits Sem held.sets sets.0))
    (kind-fits Proc held.processes sets.1)

-- ---- what is packed is what the definitions write

packed : Name × Body → PackedDeed
packed deed = pack deed.0 (body_of deed.1)

packed-is : (deed : Name × Body) (p : PackedDeed) → IsPackedDeed suits IsSpelled deed p → p ≡ packed deed
unfolding packed
packed-is deed p is =
    ap (λ (name : Name). record p { name = name }) is.name
    ∙ ap (λ (bytes : List ℕ). record (packed deed) { body = bytes })
    (spelled-read deed.0 deed.1 p.body is.suits is.body).written

packed-are : (ds : List (Name × Body)) (ps : List PackedDeed) → ArePackedDeeds suits IsSpelled ds ps
    → ps ≡ map packed ds
packed-are [] [] are = refl
packed-are [] (p ∷ ps) are = absurd are
packed-are (d ∷ ds) [] are = absurd are
packed-are (d ∷ ds) (p ∷ ps) are =
    ap (λ (q : PackedDeed). q ∷ ps) (packed-is d p are.0)
    ∙ ap (λ (qs : List PackedDeed). packed d ∷ qs) (packed-are ds ps are.1)

kind-packed : (name : ℕ → Name) (entries : Numbered Body)
    → map packed (deeds_of name entries) ≡ pack_all name (numbered_of entries)
unfolding packed
kind-packed name [] = refl
kind-packed name (e ∷ entries) =
    ap (λ (ps : List PackedDeed). pack (name e.0) (body_of e.1) ∷ ps) (kind-packed name entries)

objects-packed : (held : Named Body)
    → map packed (deeds_of Msg held.queues ++ deeds_of Sem held.sets)
    ≡ pack_all Msg (numbered_of held.queues) ++ pack_all Sem (numbered_of held.sets)
objects-packed held =
    map-append packed (deeds_of Msg held.queues) (deeds_of Sem held.sets)
    ∙ ap (λ (ps : List PackedDeed). ps ++ map packed (deeds_of Sem held.sets)) (kind-packed Msg held.queues)
    ∙ ap (λ (ps : List PackedDeed). pack_all Msg (numbered_of held.queues) ++ ps) (kind-packed Sem held.sets)

-- the frames that hand all over are those of the rule
pub hands-all-over : (held : Named Body) (pid parent : ℕ) (call : Call) (sent : List Frame)
    → HandsOver suits IsSpelled held pid parent call sent → sent ≡ give_all (bodies_of held) pid parent call
hands-all-over held pid parent call sent over =
    over.frames
    ∙ ap (λ (objects : List PackedDeed). hand_over objects over.processes pid parent call)
    (packed-are _ over.objects over.objects_packed ∙ objects-packed held)
    ∙ ap (λ (processes : List PackedDeed). hand_over _ processes pid parent call)
    (packed-are _ over.processes over.processes_packed ∙ kind-packed Proc held.processes)
