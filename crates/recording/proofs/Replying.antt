-- Where two reports have the same chains and circles, they get the same reply.
-- Assumes nothing.
use Rattle.std.proofs.Common.{◌≡◌, ℕ, Bool, length, ap, ◌∙◌}
use Rattle.recording.specs.Recording.{Recording}
use Rattle.recording.specs.EdgeList.{edge_list}
use Rattle.recording.specs.Enumeration.{chains}
use Rattle.recording.specs.Answers.{circles}
use Rattle.recording.specs.Replies.{reply, reply_to}
use Rattle.recording.specs.Reports.{ReportsAgree, SameThreadsReply}
use Rattle.recording.proofs.Agreeing.{same_threads_report}

pub same_replies : (ρ σ : Recording) (first second : ℕ → ℕ → Bool) → ReportsAgree ρ σ first second → (budget places : ℕ)
    → reply (edge_list ρ) first budget places ≡ reply (edge_list σ) second budget places
same_replies ρ σ first second a budget places =
    ap (λ n. reply_to n (circles (edge_list ρ) first) budget places) (ap length a.same_chains)
    ∙ ap (λ l. reply_to (length (chains (edge_list σ) second)) l budget places) a.same_circles

pub same_threads_reply : SameThreadsReply
same_threads_reply ρ σ okρ okσ same first second told toldσ =
    same_replies ρ σ first second (same_threads_report ρ σ okρ okσ same first second told toldσ)
