use Rattle.std.proofs.Common.{◌≡◌, ◌∙◌, ap, sym, subst, None, Some, IfOk}
use Rattle.blot_tag.specs.Views.{text_of}
use Rattle.blot_session.specs.Met.{met_of}
use Rattle.blot_session.specs.Runs.{said_by}
use Rattle.blot_capture.specs.Handling.{met_at, met_in}
use Rattle.blot_capture.specs.Sessions.{session_in, sessions_of, IsPlaceFor}
use Rattle.blot_capture.specs.Trace.{session_for}
use Rattle.blot_capture.proofs.LookupLemmas.{session-for}
use Rattle.blot_capture.proofs.sessions.Sessions.meets.Goals.{in-Some, in-None}
use Rattle.blot_capture.proofs.sessions.Sessions.meets.Goals as goal

pub returns-clause-met : goal.returns-clause-met
returns-clause-met c =
    let text = text_of c.args.frame.now in
    let same : session_in c.place_for.new.out.items c.place_for.new.table ≡ sessions_of c.args.self.now = c.in_ok-place.ensures.same ∙ ap sessions_of c.self.view_is in
    elim c.match-branch-2.branch [
      | in-Some w ↦
          let at : IsPlaceFor text c.place_for.new.out.items w.in-Some.place = rw w.in-Some.is at c.in_ok-place.ensures.place in
          let found : session_for (session_in c.place_for.new.out.items c.place_for.new.table) text ≡ Some w.index.result.now =
          session-for at.peer c.place_for.new.out.items c.place_for.new.table w.in-Some.place w.index.result.now text at.at w.index.ensures at.sent in
          subst (λ result. IfOk result (λ met. met ≡ met_in (sessions_of c.args.self.now) text)) (sym w.result-is)
          (ap Some (w.meets.ensures.met ∙ ap (λ said. met_of w.index.result.now said w.sending_of.result) c.requires.said
          ∙ ap (met_of w.index.result.now (said_by text)) w.sending_of.ensures)
          ∙ ap (λ session. met_at session text) (sym found) ∙ ap (λ sessions. met_in sessions text) same)
      | in-None w ↦
          let none : session_for (session_in c.place_for.new.out.items c.place_for.new.table) text ≡ None = rw w.in-None.is at c.in_ok-place.ensures.place in
          subst (λ result. IfOk result (λ met. met ≡ met_in (sessions_of c.args.self.now) text)) (sym w.result-is)
          (ap (λ session. met_at session text) (sym none) ∙ ap (λ sessions. met_in sessions text) same)
    ]
