-- Machine value of a handle, taken apart and made.
use Rattle.std.proofs.Common.{◌≡◌, List, [], ◌∷◌, ◌++◌, refl, ◌∙◌}
use mathlib.Core.Bool.{Bool, true, ◌&&◌}
use lib.Dec.{T}
use seplogic.Ra.Ura.{Ura}
use mir.Syntax.{ty_ptr}
use mir.Val.{Val, vbool, vstruct, vcons, vnil, of_list, has_ty, WT}
use types.Logic.{Logic}
use types.Kit.{Item, Goal, Seq, Step, step, ‵, ◌$◌, drop, fsplit, fjoin, fpick, fpack, feq_i, feq_l}
use denote.RattleType.{Valss}
use denote.Builtin.{RawPtr, bool}
use denote.RawPtr.{Ptr, ptr_val}
use denote.Steps.{nothing}
use denote.Struct.Struct.{within}
use denote.Struct.Owning.{shape}
use Rattle.core.proofs.atomic.Steps.{Ptr-Good}
use Rattle.std_alloc.proofs.ResultValues.{and_tt}
use Rattle.std.specs.declared.option.Option.{Option}
use Rattle.wlb_client.specs.declared.page.Page.{Page}
use Rattle.wlb_client.specs.Handle.{handle_owns}
use Rattle.wlb_client.specs.contracts.handle.Handle as handle

abbrev pub word : Ptr → Bool → Val
word p y = vstruct (vcons (ptr_val p) (vcons (vbool y) vnil))

abbrev pub Data : Type 0
Data = (handle.the_row).Denot

pub handle_good : (p : Ptr) (y : Bool) → T (has_ty ty_ptr (ptr_val p) && (true && true)) × WT (word p y)
handle_good p y = let g = Ptr-Good p in (and_tt _ g.0, (g.1, (tt, tt)))

module _ {M : Type 1} {𝓤 : Ura M} {𝓛 : Logic 𝓤} {K : Type 0} {Γ : List (Item 𝓤)} {G : Goal 𝓤 𝓛.H} where
  pub handle_in : K → (p : Ptr) (y : Bool) (x : Option Page)
      → Step K 𝓛 (‵ ((handle.the_row).own_val (record { at = p; full = y; value = x }) (word p y ∷ [])) ∷ Γ) G (‵ (handle_owns y p x) ∷ Γ) G
  handle_in t p y x = step (λ s.
      nothing t $ feq_i t (List Val) (vbool y ∷ []) (vbool y ∷ []) refl $ fjoin t $ feq_i t (List Val) (ptr_val p ∷ []) (ptr_val p ∷ []) refl $ fjoin t $
      feq_i t (List Val) (word p y ∷ []) (word p y ∷ []) refl $ fjoin t $
      fpack t (Valss (RawPtr ∷ bool ∷ [])) (within (shape handle.the_type) (p, (y, tt)) (word p y ∷ [])) (ptr_val p ∷ [], (vbool y ∷ [], tt)) $ fjoin t $ s)

  pub handle_out : K → (d : Data) (vs : List Val) → (vs ≡ word d.at d.full ∷ [] → Seq K 𝓛 (‵ (handle_owns d.full d.at d.value) ∷ Γ) G) → Seq K 𝓛 (‵ ((handle.the_row).own_val d vs) ∷ Γ) G
  handle_out t d vs k =
      fsplit t $ fpick t (λ vss. fsplit t $ feq_l t (λ ev. fsplit t $ feq_l t (λ ep. fsplit t $ feq_l t (λ eb. drop t $
      k (ev ∙ (λ i. vstruct (of_list (ep i ++ (eb i ++ []))) ∷ []))))))
