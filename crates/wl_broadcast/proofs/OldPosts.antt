-- Lemmas on old posts: a post is old only if one of its source with the same number or a greater
-- one was received before.
use Rattle.std.proofs.Common.{◌≡◌, ⊎_elim, ℕ, ◌<◌, false, List, [], ◌∷◌, Some, is_some, refl, sym, ap, ◌∙◌, subst}
use Rattle.std.proofs.lemmas.Bool.{cases_eq, lt-leb}
use Rattle.wl_draft.specs.Tables.{find, put}
use Rattle.wl_draft.proofs.TableLemmas.{find-put_same, find-put_other}
use Rattle.wl_grammar.specs.declared.frame.Heard.{Heard}
use Rattle.wl_broadcast.specs.Channels.{ChannelState, no_channels, opened, posted, heard, is_old, is_old_after, is_own, open_refusal, post_refusal, read_at, closed_at}
use Rattle.wl_broadcast.specs.Heard.{Call, Opens, Posts, Hears, Reads, Closes, step, after, AllBefore, OldOnlyAfter}
use Rattle.wl_broadcast.proofs.Gained.{either}

module _ (source number : ℕ) where
  abbrev IsNew : ChannelState → Type 0
  IsNew c = is_old c source number ≡ false

  new_after_hearing : (h : Heard) (c : ChannelState) → IsNew c → (h.source ≡ source → h.number < number) → IsNew (heard h c)
  new_after_hearing h c new before = ⊎_elim
      (λ same. ap (λ last. is_old_after last number) (subst (λ s. find (put h.source h.number c.last) s ≡ Some h.number) same (find-put_same h.source h.number c.last)) ∙ lt-leb number h.number (before same))
      (λ other. ap (λ last. is_old_after last number) (find-put_other h.source h.number c.last source (λ same. other (sym same))) ∙ new)
      (cases_eq h.source source)

  new_after : (calls : List Call) (c : ChannelState) → IsNew c → AllBefore source number calls → IsNew (after calls c)
  new_after [] c new before = new
  new_after (Opens name ∷ calls) c new before =
      new_after calls (step (Opens name) c) (either (is_some (open_refusal name c)) IsNew c (opened name c) (λ _. new) (λ _. new)) before
  new_after (Posts k bytes ∷ calls) c new before =
      new_after calls (step (Posts k bytes) c) (either (is_some (post_refusal c.tab k bytes c)) IsNew c (posted k bytes c) (λ _. new) (λ _. new)) before
  new_after (Hears h ∷ calls) c new before =
      new_after calls (step (Hears h) c) (either (is_old c h.source h.number) IsNew c (heard h c) (λ _. new) (λ _. new_after_hearing h c new before.0)) before.1
  new_after (Reads k ∷ calls) c new before =
      new_after calls (step (Reads k) c) (either (is_own c c.tab k) IsNew (read_at k c) c (λ _. new) (λ _. new)) before
  new_after (Closes k ∷ calls) c new before =
      new_after calls (step (Closes k) c) (either (is_own c c.tab k) IsNew (closed_at k c) c (λ _. new) (λ _. new)) before

pub old_only_after : OldOnlyAfter
old_only_after tab source number calls before = new_after source number calls (no_channels tab) refl before
