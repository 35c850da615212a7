-- Commands of one tab in a taken list: a contiguous run of the tab's issued commands.
use Rattle.std.proofs.Common.{◌≡◌, ℕ, zero, suc, ◌+◌, ◌<◌, ◌≤◌, true, false, List, [], ◌∷◌, ◌++◌, length, length-append, drop, get_or, refl, sym, ap, ap₂, ◌∙◌, subst, arith, append-nil}
use Rattle.std.proofs.lemmas.Bool.{or_parts}
use Rattle.std.proofs.lemmas.List.{drop_more}
use Rattle.wl_grammar.specs.declared.frame.Operation.{Operation}
use Rattle.wl_grammar.specs.declared.frame.Operation.TheVariants.{Query}
use Rattle.wl_broker_reports.specs.ReportParts.{Whole}
use Rattle.wl_draft.proofs.Membership.{apart}
use Rattle.wl_world_model.specs.Orders.{Act, Dies, Reports, Commands, Item, is_report, has_report, base_or, base_of, limit_or, limit_of, commands_of, next_of, IsPrefix, numbered}
use Rattle.wl_world_model.proofs.exclusion.GrownTabs.{Grows}
use Rattle.wl_world_model.proofs.order.OneMoreItem.{item, has_report-push, commands_of-push, base_or-none, base_of-push_first}

-- `n` issued commands from number `k` on, with their numbers.
abbrev slice : List Operation → ℕ → ℕ → List (ℕ × Operation)
slice issued k zero = []
slice issued k (suc n) = (k, get_or issued k Query) ∷ slice issued (k + 1) n

slice-push : (issued : List Operation) (k n j : ℕ) → j ≡ k + n → slice issued k (suc n) ≡ slice issued k n ++ (j, get_or issued j Query) ∷ []
slice-push issued k zero j e = let o : k ≡ j = omega arith in ap (λ (i : ℕ). (i, get_or issued i Query) ∷ []) o
slice-push issued k (suc n) j e = ap (λ zs. (k, get_or issued k Query) ∷ zs) (slice-push issued (k + 1) n j (omega arith))

slice-grows : (xs ys : List Operation) (k n : ℕ) → Grows xs ys → k + n ≤ length xs → slice ys k n ≡ slice xs k n
slice-grows xs ys k zero m le = refl
slice-grows xs ys k (suc n) m le = ap₂ (λ c zs. (k, c) ∷ zs) (m.1 k (omega arith)) (slice-grows xs ys (k + 1) n m (omega arith))

slice-rest : (issued : List Operation) (k n j : ℕ) → j ≡ k + n → j ≤ length issued → slice issued k n ++ numbered j (drop j issued) ≡ numbered k (drop k issued)
slice-rest issued k zero j e le = let o : j ≡ k = omega arith in ap (λ (i : ℕ). numbered i (drop i issued)) o
slice-rest issued k (suc n) j e le =
    ap (λ zs. (k, get_or issued k Query) ∷ zs) (slice-rest issued (k + 1) n j (omega arith) le)
    ∙ sym (ap (numbered k) (drop_more issued k Query (omega arith)))

-- The commands `cs` are the issued commands from the base on.
abbrev RunsFrom : List Operation → ℕ → List (ℕ × Operation) → Type 0
RunsFrom issued base cs = (base + length cs ≤ length issued) × (cs ≡ slice issued base (length cs))

runs-push : (issued : List Operation) (base : ℕ) (cs : List (ℕ × Operation)) (n : ℕ) (c : Operation) → RunsFrom issued base cs → n ≡ base + length cs → n < length issued → get_or issued n Query ≡ c → RunsFrom issued base (cs ++ (n, c) ∷ [])
runs-push issued base cs n c r e lt s =
    let more : length (cs ++ (n, c) ∷ []) ≡ suc (length cs) = omega (arith, length-append cs ((n, c) ∷ [])) in (
      omega arith,
      ap₂ (λ xs x. xs ++ (n, x) ∷ []) r.1 (sym s) ∙ (sym (slice-push issued base (length cs) n e) ∙ ap (slice issued base) (sym more)),
    )

runs-grows : (xs ys : List Operation) (base : ℕ) (cs : List (ℕ × Operation)) → Grows xs ys → RunsFrom xs base cs → RunsFrom ys base cs
runs-grows xs ys base cs m r =
    let a : base + length cs ≤ length xs = r.0 in
    let b : length xs ≤ length ys = m.0 in
    (omega arith, r.1 ∙ sym (slice-grows xs ys base (length cs) m a))

-- The items of one tab: if it is honest, its commands are a run of its issued list.
pub record Ordered (H : Type 0) (issued : List Operation) (mine : List Item) : Type 0 where
  pub runs : H → RunsFrom issued (base_of mine) (commands_of mine)
  pub unjoined : has_report mine ≡ false → commands_of mine ≡ []

pub ordered-prefix : (H : Type 0) (issued : List Operation) (mine : List Item) → Ordered H issued mine → H → IsPrefix (commands_of mine) (numbered (base_of mine) (drop (base_of mine) issued))
ordered-prefix H issued mine o h =
    let base = base_of mine in
    let cs = commands_of mine in (
      numbered (base + length cs) (drop (base + length cs) issued),
      ap (λ zs. zs ++ numbered (base + length cs) (drop (base + length cs) issued)) (o.runs h).1 ∙ slice-rest issued base (length cs) (base + length cs) refl (o.runs h).0,
    )

pub ordered-none : (H : Type 0) (issued : List Operation) → Ordered H issued []
ordered-none H issued = record { runs = λ _. (omega arith, refl); unjoined = λ _. refl }

pub ordered-grows : (H L : Type 0) (xs ys : List Operation) (mine : List Item) → (L → H) → Grows xs ys → Ordered H xs mine → Ordered L ys mine
ordered-grows H L xs ys mine f m o = record { runs = λ l. runs-grows xs ys (base_of mine) (commands_of mine) m (o.runs (f l)); unjoined = o.unjoined }

base_of-push : (xs : List Item) (x : Item) → is_report x.act ≡ false → base_of (xs ++ x ∷ []) ≡ base_of xs
base_of-push [] x e = base_or-none x.act 0 e
base_of-push (y ∷ xs) x e = ap (base_or y.act) (base_of-push xs x e)

limit_or-none : (a : Act) (n : ℕ) → is_report a ≡ false → limit_or a n ≡ n
limit_or-none (Reports r) n e = apart refl e
limit_or-none a n e = refl

limit_of-push : (xs : List Item) (x : Item) → is_report x.act ≡ false → limit_of (xs ++ x ∷ []) ≡ limit_of xs
limit_of-push [] x e = limit_or-none x.act 0 e
limit_of-push (y ∷ xs) x e = ap (limit_or y.act) (limit_of-push xs x e)

pub limit_of-reports : (mine : List Item) (t p : ℕ) (r : Whole) → has_report mine ≡ false → limit_of (mine ++ item t p (Reports r) ∷ []) ≡ r.limit
limit_of-reports [] t p r h = refl
limit_of-reports (y ∷ xs) t p r h =
    let o = or_parts _ _ h in
    limit_or-none y.act (limit_of (xs ++ item t p (Reports r) ∷ [])) o.0 ∙ limit_of-reports xs t p r o.1

pub limit_of-commands : (mine : List Item) (t p n : ℕ) (c : Operation) → limit_of (mine ++ item t p (Commands n c) ∷ []) ≡ limit_of mine
limit_of-commands mine t p n c = limit_of-push mine (item t p (Commands n c)) refl

pub next_of-reports : (mine : List Item) (t p : ℕ) (r : Whole) → has_report mine ≡ false → commands_of mine ≡ [] → next_of (mine ++ item t p (Reports r) ∷ []) ≡ r.base
next_of-reports mine t p r h e =
    ap₂ (λ b cs. b + length cs) (base_of-push_first mine (item t p (Reports r)) h) (commands_of-push mine (item t p (Reports r)) ∙ (append-nil (commands_of mine) ∙ e))
    ∙ zero_right r.base
  where
    zero_right : (b : ℕ) → b + 0 ≡ b
    zero_right b = omega arith

pub next_of-commands : (mine : List Item) (t p n : ℕ) (c : Operation) → next_of (mine ++ item t p (Commands n c) ∷ []) ≡ next_of mine + 1
next_of-commands mine t p n c =
    ap₂ (λ b cs. b + length cs) (base_of-push mine (item t p (Commands n c)) refl) (commands_of-push mine (item t p (Commands n c)))
    ∙ longer (base_of mine) (commands_of mine)
  where
    longer : (b : ℕ) (cs : List (ℕ × Operation)) → b + length (cs ++ (n, c) ∷ []) ≡ b + length cs + 1
    longer b cs = omega (arith, length-append cs ((n, c) ∷ []))

pub ordered-dies : (H : Type 0) (issued : List Operation) (mine : List Item) (t p : ℕ) → Ordered H issued mine → Ordered H issued (mine ++ item t p Dies ∷ [])
ordered-dies H issued mine t p o =
    let cs = commands_of-push mine (item t p Dies) ∙ append-nil (commands_of mine) in
    let bs = base_of-push mine (item t p Dies) refl in
    record {
      runs = λ h. subst (λ b. RunsFrom issued b (commands_of (mine ++ item t p Dies ∷ []))) (sym bs) (subst (RunsFrom issued (base_of mine)) (sym cs) (o.runs h));
      unjoined = λ f. cs ∙ o.unjoined ((or_parts _ _ (sym (has_report-push mine (item t p Dies)) ∙ f)).0);
    }

pub ordered-reports : (H : Type 0) (issued : List Operation) (mine : List Item) (t p : ℕ) (r : Whole) → Ordered H issued mine → has_report mine ≡ false → (H → r.base ≤ length issued) → Ordered H issued (mine ++ item t p (Reports r) ∷ [])
ordered-reports H issued mine t p r o f within =
    let cs = commands_of-push mine (item t p (Reports r)) ∙ (append-nil (commands_of mine) ∙ o.unjoined f) in
    let bs = base_of-push_first mine (item t p (Reports r)) f in
    record {
      runs = λ h. let le : r.base ≤ length issued = within h in subst (λ b. RunsFrom issued b (commands_of (mine ++ item t p (Reports r) ∷ []))) (sym bs) (subst (RunsFrom issued r.base) (sym cs) (omega arith, refl));
      unjoined = λ _. cs;
    }

pub ordered-commands : (H : Type 0) (issued : List Operation) (mine : List Item) (t p n : ℕ) (c : Operation) → Ordered H issued mine → has_report mine ≡ true → n ≡ next_of mine → (H → (n < length issued) × (get_or issued n Query ≡ c)) → Ordered H issued (mine ++ item t p (Commands n c) ∷ [])
ordered-commands H issued mine t p n c o f e is =
    let cs = commands_of-push mine (item t p (Commands n c)) in
    let bs = base_of-push mine (item t p (Commands n c)) refl in
    record {
      runs = λ h. subst (λ b. RunsFrom issued b (commands_of (mine ++ item t p (Commands n c) ∷ []))) (sym bs) (subst (RunsFrom issued (base_of mine)) (sym cs) (runs-push issued (base_of mine) (commands_of mine) n c (o.runs h) e (is h).0 (is h).1));
      unjoined = λ g. apart f ((or_parts _ _ (sym (has_report-push mine (item t p (Commands n c))) ∙ g)).0);
    }
