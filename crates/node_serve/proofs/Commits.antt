-- A parcel that is taken is an exit that is carried out, by the definition and by the kernel.
use Rattle.std.proofs.Common.{◌≡◌, ◌∙◌, ℕ, Bool, true, false, Option, Some, None, Result, Ok, Err, IfOk, OnOk, refl, sym, ap, subst}
use Rattle.std.specs.Prelude.{if◌then◌else◌}
use Rattle.std.specs.Option.{option_and_then}
use Rattle.pico_base.specs.declared.call.Call.{Call}
use Rattle.pico_base.specs.declared.numbers.Name.TheVariants.{Proc}
use Rattle.pico_base.specs.declared.reply.Reply.{Reply}
use Rattle.rpc_frame.specs.declared.deed.Parcel.{Parcel}
use Rattle.number_maps.specs.Maps.{Numbered}
use Rattle.node_model.specs.Kinds.{Named, get_named, put_all}
use Rattle.node_model.specs.Bodies as model
use Rattle.node_model.specs.Parcels.{commit_exit, fits_bodies, fits_if, read_deeds}
use Rattle.deed_box.specs.Deeds.{AreAbsent}
use Rattle.deed_box.specs.Packing.{names_of}
use Rattle.serve_laws.specs.Ends.{IsEnded}
use Rattle.serve_laws.proofs.Ends.{ends-are-the-kernels}
use Rattle.node_serve.specs.declared.body.Body.{Body}
use Rattle.node_serve.specs.Bodies.{bodies_of}
use Rattle.node_serve.specs.Ending.{Commits, EndsAsInKernels, TakesThenWakes, fits_as_read, lets, parked_for}
use Rattle.node_serve.proofs.KernelLemmas.{some_same}
use Rattle.node_serve.proofs.Taken.{takes-alone}
use Rattle.node_serve.proofs.Waking.{comes-to}

-- A parcel that is taken where it may be is an exit that is carried out.
pub takes-commits : (old : Named Body) (parcel : Parcel) (awaits : Option (Option ℕ)) (new : Named Body)
    (own : Option Reply) → lets parcel.pid (get_named old (Proc parcel.parent)) ≡ true
    → AreAbsent old (names_of parcel.deeds) → fits_as_read parcel ≡ true
    → TakesThenWakes old parcel awaits new own → Commits old parcel awaits new own
takes-commits old parcel awaits new own lets_it absent fits t =
    comes-to old t.taken parcel (takes-alone old t.taken parcel lets_it absent fits t.takes) awaits new own t.wakes

-- ---- the kernel

fits-there : (deeds : model.Deeds) (parcel : Parcel) (o : Option (Numbered model.Body)) (bodies : Numbered model.Body)
    → option_and_then (fits_if deeds parcel) o ≡ Some bodies → fits_bodies deeds parcel bodies ≡ true
fits-there deeds parcel None bodies h = absurd (cc)
fits-there deeds parcel (Some read) bodies h = by (fits_bodies deeds parcel read) refl h
  where
    by : (b : Bool) → fits_bodies deeds parcel read ≡ b → (if b then Some read else None) ≡ Some bodies
        → fits_bodies deeds parcel bodies ≡ true
    by true is same =
        subst (λ (m : Numbered model.Body). fits_bodies deeds parcel m ≡ true) (some_same read bodies same) is
    by false is same = absurd (cc)

-- the deeds after a parcel's commit are those of the kernel's transition, where the parent isn't parked
pub commits-as-the-kernel : (old : Named Body) (parcel : Parcel) (awaits : Option (Option ℕ)) (new : Named Body)
    (own : Option Reply) → Commits old parcel awaits new own → awaits ≡ None → EndsAsInKernels old parcel new
commits-as-the-kernel old parcel awaits new own c nobody =
    record {
      ends = λ bodies k next n reached fits valid agrees gives.
          let bodies_is : c.bodies ≡ bodies = some_same c.bodies bodies (sym c.fits ∙ fits)
          in let parent_is : c.parent ≡ agrees.parent = some_same c.parent agrees.parent (sym c.held ∙ agrees.held)
          in let made : commit_exit parcel bodies None agrees.parent ≡ Some c.committed =
          subst (λ (o : Option Call). commit_exit parcel bodies o agrees.parent ≡ Some c.committed)
          (ap parked_for nobody)
          (subst (λ (m : Numbered model.Body). commit_exit parcel m (parked_for awaits) agrees.parent
          ≡ Some c.committed)
          bodies_is
          (subst (λ (b : model.Body). commit_exit parcel c.bodies (parked_for awaits) b ≡ Some c.committed) parent_is
          c.commits))
          in subst (λ (d : model.Deeds). IsEnded k (bodies_of old) parcel bodies agrees.row d next reached)
          (sym c.after)
          (ends-are-the-kernels k (bodies_of old) parcel bodies c.committed n next reached valid
          (fits-there (bodies_of old) parcel (read_deeds parcel.deeds) bodies fits) agrees made gives);
    }

-- what follows from a value that was handed on
pub if-ok-on : {X E : Type 0} (P : X → Type 0) (Q : Type 0) (r : Result X E) → ((x : X) → P x → Q) → IfOk r P
    → OnOk r Q
if-ok-on P Q (Ok x) f h = f x h
if-ok-on P Q (Err e) f h = tt
