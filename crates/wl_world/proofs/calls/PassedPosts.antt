-- A tab's post, routed by the kernel, is sent to exactly the other tabs of its partition.
use Rattle.std.proofs.Common.{◌≡◌, ℕ, List, [], ◌∷◌, map, refl, ap, ◌∙◌}
use Rattle.std.specs.List.{filter_map}
use Rattle.wl_grammar.specs.declared.frame.Frame.{Frame}
use Rattle.wl_grammar.specs.declared.frame.Frame.TheVariants as frame
use Rattle.wl_grammar.specs.declared.frame.Heard.{Heard}
use Rattle.wl_kernel.specs.Kernel.{KernelState}
use Rattle.wl_kernel.specs.Routes.{routed_up, heard_of, hearers}
use Rattle.wl_kernel.specs.declared.routes.Routed.TheVariants.{Tabs}
use Rattle.wl_world_messages.specs.declared.message.Message.{Message}
use Rattle.wl_world_messages.specs.declared.message.Message.TheVariants.{Across}
use Rattle.wl_world.specs.Merging.{across_to}
use Rattle.wl_world.specs.Components.{crossed}

abbrev pub all_across : List (ℕ × Frame) → List Message
all_across posts = filter_map (λ p. across_to p.0 p.1) posts

heard_across : (x : Heard) (ts : List ℕ) → all_across (map (λ n. (n, frame.Heard x)) ts) ≡ map (λ u. Across u x) ts
heard_across x [] = refl
heard_across x (t ∷ ts) = ap (λ ms. Across t x ∷ ms) (heard_across x ts)

none_across : (posts : List (ℕ × Frame)) → Tabs posts ≡ Tabs [] → all_across posts ≡ []
none_across posts e = let none : posts ≡ [] = cc in ap all_across none

pub crossed-across : (k : KernelState) (t : ℕ) (f : Frame) (posts : List (ℕ × Frame)) → Tabs posts ≡ routed_up t f k → all_across posts ≡ crossed k t f
crossed-across k t (frame.Command c) posts e = cc
crossed-across k t (frame.Report r) posts e = cc
crossed-across k t (frame.ReportPart r) posts e = cc
crossed-across k t (frame.Post p) posts e =
    let there : List (ℕ × Frame) = map (λ n. (n, heard_of t p)) (hearers t k) in
    let routed : Tabs posts ≡ Tabs there = e in
    let same : posts ≡ there = cc in
    ap all_across same ∙ heard_across (record { source = t; number = p.number; channel = p.channel; bytes = p.bytes }) (hearers t k)
crossed-across k t (frame.Hello x) posts e = none_across posts e
crossed-across k t (frame.Answer x) posts e = none_across posts e
crossed-across k t (frame.Snapshot x) posts e = none_across posts e
crossed-across k t (frame.Heard x) posts e = none_across posts e
crossed-across k t (frame.Welcome x) posts e = none_across posts e
crossed-across k t (frame.PairWelcome x) posts e = none_across posts e
crossed-across k t (frame.Stamped x) posts e = none_across posts e
crossed-across k t (frame.Start x) posts e = none_across posts e
crossed-across k t (frame.Addressed x) posts e = none_across posts e
crossed-across k t (frame.Dead x) posts e = none_across posts e
