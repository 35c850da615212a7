-- `into_raw_box` returns the box that the handle owns.
use Rattle.std.proofs.Common.{◌≡◌, List, [], ◌∷◌, ◌++◌, refl, sym, subst, lit<}
use mathlib.Core.Bool.{Bool, true, false}
use seplogic.Ra.Ura.{Ura}
use prog.Model.{Model}
use types.Logic.{Logic}
use contract.Running.{Running}
use mir.Val.{Val, vptr, vcons, vnil}
use base.Logic.{SProp, ent, emp, id⊢, fst∗, never, never_e, via, sep}
use base.Fml.{ftrue}
use prog.Wp.{WpFn}
use types.Kit.{‵, raw, prop, regoal, ◌⊛◌, at_ret, ◌$◌, ◌∵◌, !, qed, by, move, keep, drop, split, fsplit, fjoin, use0, use1, suffices}
use types.Run.{stop, fld, lit, of_opd, no_more, and_then, first, branches, skips, exec, returns, returns_within, enter}
use types.ByLocal.{alloc_all, pass_all, free_all, look_at, get, get_in, sets, env}
use types.Part.{agg, sub, whole}
use types.Match.{live}
use types.Logic.{sem}
use contract.Monad.{fact, fact_i}
use contract.Running.{tables}
use denote.Exit.{yes}
use denote.RattleType.{RattleType, owns}
use denote.RawPtr.{Ptr, block_ptr, null_ptr, in_a_block}
use denote.Memory.{lone}
use denote.Param.{layout}
use denote.Signature.{types_at, type_at, plain}
use denote.Steps.{nothing}
use denote.Triple.Walked.{Stays, stay_dropped, walk_of, Goes-dropped}
use mir.Raw.{raw as bare}
use Rattle.core.proofs.alloc.Calls.{handle_tells}
use Rattle.core.proofs.atomic.Steps.{Ptr-Good}
use Rattle.core.proofs.cell.Inside.{Good}
use Rattle.core.proofs.option.Made.{Some-of, none_of}
use Rattle.std_alloc.proofs.ResultValues.{and_tt}
use Rattle.std_alloc.specs.Box.Ownership.{box_owns}
use Rattle.std.proofs.raw_atomic.Walks.{proved_at, leaves}
use Rattle.std.specs.declared.option.Option.{Option}
use Rattle.std.specs.declared.option.Option.TheVariants.{None, Some}
use Rattle.std.specs.contracts.alloc.Global as heap
use Rattle.std.proofs.alloc.Global.TheLaws as heap_laws
use Rattle.std.specs.contracts.impls.GlobalAllocator.TheImpl.{ghosts}
use Rattle.libc.specs.Heap.{chunk}
use Rattle.wlb_client.specs.declared.page.Page.{Page}
use Rattle.wlb_client.specs.contracts.page.Page as page
use Rattle.wl_raw_box.proofs.Values.{pair_word, RawBox, al, raw_box_good, raw_box_in}
use Rattle.wlb_client.specs.Handle.{handle_owns}
use Rattle.wlb_client.proofs.Steps.{word, handle_good, handle_out}
use Rattle.wlb_client.specs.contracts.handle.Handle as handle
use Rattle.wlb_client.specs.contracts.handle.Handle.into_raw_box as f
use Rattle.wlb_client.proofs.handle.Handle.into_raw_box.Statement.{statement}
use Rattle.wlb_client.proofs.handle.Handle.into_raw_box.Code as code

abbrev R : RattleType
R = page.the_row

abbrev Z : RattleType
Z = heap.the_row

abbrev L : RattleType
L = RawBox R Z heap_laws.the_row_laws ghosts

abbrev stayed : Stays f.ended.signature.params f.ended.kept
stayed = (stay_dropped (plain (λ _. handle.the_row)) yes, (stay_dropped (plain (λ _. Z)) yes, tt))

abbrev Out : RattleType
Out = type_at f.ended.signature.result tt

module _ {M : Type 1} {𝓤 : Ura M} (𝓛 : Logic 𝓤) (𝓜 : Model 𝓤 𝓛.H) (𝓡 : Running 𝓤 𝓛.H 𝓜) (z : (walk_of 𝓛 f.ended stayed (f.clauses 𝓛 𝓜.mem 𝓡.returns)).Ghost) (h : Val) (fits : Good (layout Z) h) where
  abbrev Post : Val → SProp 𝓤
  Post = (walk_of 𝓛 f.ended stayed (f.clauses 𝓛 𝓜.mem 𝓡.returns)).post z

  abbrev Run : List Val → SProp 𝓤
  Run ws = WpFn 𝓤 𝓛.H (tables 𝓤 𝓛.H 𝓜 𝓡 𝓡.env).C (tables 𝓤 𝓛.H 𝓜 𝓡 𝓡.env).Λ code.function ws Post

  abbrev a : Z.Denot
  a = z.0.3.1.0

  -- The handle holds a box, or nothing.
  steps : (y : Bool) (p : Ptr) (x : Option Page) → x ≡ z.0.3.0.value → ent 𝓤 (sep 𝓤 (sem 𝓛 (handle_owns y p x)) (sem 𝓛 (Z.own_val a (h ∷ [])))) (Run (word p y ∷ h ∷ []))
  steps true p (Some x) is =
      qed 𝓛 (‵ (box_owns chunk R p x) ∷ ‵ (Z.own_val a (h ∷ [])) ∷ []) ∵
      in_a_block ! p (λ q. box_owns chunk R q x) (fst∗ 𝓤 (never 𝓤) (sem 𝓛 (chunk (bare (lone R.mir)) null_ptr))) (λ b o e.
      regoal ! (λ q. prop (Run (word q true ∷ h ∷ []))) e refl $
      let l : L.Denot = record { at = block_ptr b o; alloc = a; value = x } in let v₁ : Val = live 1 (vcons (pair_word (vptr b o) h) vnil) in
      let typed = raw_box_good R Z heap_laws.the_row_laws ghosts b o h fits in let good : Good (layout Out) v₁ = (and_tt _ typed.0, (record { fits = lit< tt }, (typed.1, tt))) in
      enter ! _ _ code.function (word (block_ptr b o) true ∷ h ∷ []) Post $ alloc_all ! (λ s. pass_all ! refl (handle_good (block_ptr b o) true, (fits, tt)) $
      sets ! (of_opd ! (get_in ! (fld ! refl (stop !)) (sub ! 0 refl (whole !)))) refl (tt, tt) $ sets ! (of_opd ! (get_in ! (fld ! refl (stop !)) (sub ! 1 refl (whole !)))) refl (tt, tt) $
      sets ! (of_opd ! (get ! refl)) refl (tt, tt) $ first ! $ branches ! (get ! refl)
      (λ _. sets ! (of_opd ! (get ! refl)) refl (tt, tt) $ sets ! (agg ! (and_then ! (get ! refl) (and_then ! (get ! refl) (no_more !)))) refl typed $
      sets ! (agg ! (and_then ! (lit ! tt) (and_then ! (get ! refl) (no_more !)))) refl good $
      raw_box_in R Z heap_laws.the_row_laws ghosts ! b o h a x $ use1 𝓛 (‵ (Out.own_val (Some l) (v₁ ∷ []))) (Some-of 𝓛 L l (pair_word (vptr b o) h)) $
      returns_within ! Post refl (look_at ! 0 refl) $ free_all ! refl $
      use0 𝓛 (raw (fact 𝓤 (Some x ≡ z.0.3.0.value))) (fact_i 𝓤 (Some x ≡ z.0.3.0.value) (emp 𝓤) is) $ move ! (1 ∷ 0 ∷ []) $ nothing ! $ nothing ! $ fjoin ! $ nothing ! $ fjoin ! $ nothing ! $
      by ! (leaves 𝓛 f.ended stayed (f.clauses 𝓛 𝓜.mem 𝓡.returns) z v₁ (Some l) (tt, (tt, tt)) (tt, (tt, tt))))
      (λ wrong. absurd wrong)))
  steps false p None is =
      let v₀ : Val = live 0 vnil in
      qed 𝓛 (‵ ftrue ∷ ‵ (Z.own_val a (h ∷ [])) ∷ []) ∵ drop ! $ drop ! $
      enter ! _ _ code.function (word p false ∷ h ∷ []) Post $ alloc_all ! (λ s. pass_all ! refl (handle_good p false, (fits, tt)) $
      sets ! (of_opd ! (get_in ! (fld ! refl (stop !)) (sub ! 0 refl (whole !)))) refl (Ptr-Good p) $ sets ! (of_opd ! (get_in ! (fld ! refl (stop !)) (sub ! 1 refl (whole !)))) refl (tt, tt) $
      sets ! (of_opd ! (get ! refl)) refl (tt, tt) $ first ! $ branches ! (get ! refl) (λ wrong. absurd wrong)
      (λ _. skips ! $ exec ! (tables 𝓤 𝓛.H 𝓜 𝓡 𝓡.env).C (tables 𝓤 𝓛.H 𝓜 𝓡 𝓡.env).Λ (env code.Mir.locals s) code.Mir.t-5 (at_ret _ Post) $
      sets ! (agg ! (and_then ! (lit ! tt) (no_more !))) refl (tt, (record { fits = lit< tt }, tt)) $
      use0 𝓛 (‵ (Out.own_val None (v₀ ∷ []))) (none_of 𝓛 L) $ returns ! (look_at ! 0 refl) $ free_all ! refl $
      use0 𝓛 (raw (fact 𝓤 (None ≡ z.0.3.0.value))) (fact_i 𝓤 (None ≡ z.0.3.0.value) (emp 𝓤) is) $ move ! (1 ∷ 0 ∷ []) $ nothing ! $ nothing ! $ fjoin ! $ nothing ! $ fjoin ! $ nothing ! $
      by ! (leaves 𝓛 f.ended stayed (f.clauses 𝓛 𝓜.mem 𝓡.returns) z v₀ None (tt, (tt, tt)) (tt, (tt, tt)))))
  steps true p None is = via 𝓤 (never 𝓤) (fst∗ 𝓤 (never 𝓤) (sem 𝓛 (Z.own_val a (h ∷ [])))) (never_e 𝓤 _)
  steps false p (Some x) is = via 𝓤 (never 𝓤) (fst∗ 𝓤 (never 𝓤) (sem 𝓛 (Z.own_val a (h ∷ [])))) (never_e 𝓤 _)

pub into_raw_box_spec : {M : Type 1} → statement M
into_raw_box_spec 𝓤 𝓛 𝓜 𝓡 wired =
    let c = f.clauses 𝓛 𝓜.mem 𝓡.returns in
    proved_at 𝓛 f.ended stayed c 𝓜 𝓡 (Goes-dropped 𝓛 0 (plain (λ _. handle.the_row)) yes (λ κs x w. refl), (Goes-dropped 𝓛 0 (plain (λ _. Z)) yes (λ κs x w. refl), tt)) f.Key.name code.function (code.unfolded 𝓤 𝓛.H 𝓜 𝓡 wired) (λ z are.
    let v = z.0.3.0 in let R' : Val → List Val → SProp 𝓤 = λ h ws. WpFn 𝓤 𝓛.H (tables 𝓤 𝓛.H 𝓜 𝓡 𝓡.env).C (tables 𝓤 𝓛.H 𝓜 𝓡 𝓡.env).Λ code.function ws ((walk_of 𝓛 f.ended stayed c).post z) in
    qed 𝓛 ((‵ ftrue ⊛ ‵ (owns (types_at f.ended.signature.params z.0.0) z.0.3 z.0.4)) ∷ raw ((c z.0.0 z.0.3).requires z.1) ∷ []) ∵ split ! $ drop ! $ fsplit ! $
    handle_out ! v z.0.4.0 (λ ws. move ! (1 ∷ []) $ fsplit ! $ handle_tells (al R Z heap_laws.the_row_laws ghosts) ! z.0.3.1.0 z.0.4.1.0 (λ h eh fits. keep ! (2 ∷ 0 ∷ []) $
    let us : List Val = word v.at v.full ∷ h ∷ [] in
    suffices ! (R' h us) (subst (λ (vs : List Val). ent 𝓤 (R' h us) (R' h vs)) (sym (λ i. ws i ++ (eh i ++ []))) (id⊢ 𝓤 (R' h us))) $
    by ! (steps 𝓛 𝓜 𝓡 z h fits v.full v.at v.value refl))))
