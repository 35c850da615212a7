-- `empty` makes a handle that owns nothing.
use Rattle.std.proofs.Common.{◌≡◌, [], ◌∷◌, refl}
use mathlib.Core.Bool.{false}
use base.Fml.{ftrue}
use types.Kit.{‵, raw, ◌⊛◌, ◌$◌, ◌∵◌, !, qed, by, move, drop, use0}
use types.Run.{lit, false_lit, no_more, and_then, returns, enter}
use types.ByLocal.{alloc_all, pass_all, free_all, look_at, sets}
use types.Part.{agg}
use contract.Monad.{fact, fact_i}
use contract.Running.{tables}
use base.Logic.{emp}
use denote.RawPtr.{null_ptr}
use denote.Steps.{nothing}
use denote.Triple.Walked.{Stays, walk_of}
use Rattle.std.proofs.raw_atomic.Walks.{proved_at, leaves}
use Rattle.std.specs.declared.option.Option.TheVariants.{None}
use Rattle.wlb_client.proofs.Steps.{Data, word, handle_good, handle_in}
use Rattle.wlb_client.specs.contracts.handle.Handle.empty as f
use Rattle.wlb_client.proofs.handle.Handle.empty.Statement.{statement}
use Rattle.wlb_client.proofs.handle.Handle.empty.Code as code

abbrev stayed : Stays f.ended.signature.params f.ended.kept
stayed = tt

pub empty_spec : {M : Type 1} → statement M
empty_spec 𝓤 𝓛 𝓜 𝓡 wired =
    let H = 𝓛.H in let 𝓣 = tables 𝓤 H 𝓜 𝓡 𝓡.env in let c = f.clauses 𝓛 𝓜.mem 𝓡.returns in let fn = code.function in
    proved_at 𝓛 f.ended stayed c 𝓜 𝓡 tt f.Key.name fn (code.unfolded 𝓤 H 𝓜 𝓡 wired) (λ z are.
    let Post = (walk_of 𝓛 f.ended stayed c).post z in let none : Data = record { at = null_ptr; full = false; value = None } in
    qed 𝓛 ((‵ ftrue ⊛ ‵ ftrue) ∷ raw ((c z.0.0 z.0.3).requires z.1) ∷ []) ∵ drop ! $ drop ! $
    enter ! 𝓣.C 𝓣.Λ fn [] Post $ alloc_all ! (λ l. pass_all ! refl tt $
    sets ! (agg ! (and_then ! (lit ! tt) (and_then ! (false_lit !) (no_more !)))) refl (handle_good null_ptr false) $
    nothing ! $ handle_in ! null_ptr false None $ returns ! (look_at ! 0 refl) $ free_all ! refl $
    use0 𝓛 (raw (fact 𝓤 (none.value ≡ None))) (fact_i 𝓤 (none.value ≡ None) (emp 𝓤) refl) $ move ! (1 ∷ 0 ∷ []) $ nothing ! $ nothing ! $
    by ! (leaves 𝓛 f.ended stayed c z (word null_ptr false) none tt tt)))
