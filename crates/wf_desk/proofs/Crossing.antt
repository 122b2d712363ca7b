-- Inside: a desk may go from thread to thread.
use denote.Param.Send.{IsSend, sendable, recorded_send, struct_send, view_send}
use denote.Struct.Declared as struct
use Rattle.std.proofs.Crossing.{crosses}
use Rattle.policy_book.proofs.policy.Policy.TheSendSync.{the_send as policy_send, the_sync as policy_sync}
use Rattle.wf_board.proofs.board.Board.TheSendSync.{the_send as board_send}
use Rattle.basics.proofs.list.List.TheSendSync.{the_send as list_send}
use Rattle.wf_talk.proofs.Shared.{journal_send}
use Rattle.wf_talk.proofs.job.Job.TheSendSync.{the_send as job_send}
use Rattle.wf_desk.proofs.loss.Loss.TheSendSync.{the_send as loss_send}
use Rattle.wf_desk.specs.contracts.desk.Desk as Desk

pub desk_send : IsSend Desk.the_row
desk_send =
    view_send Desk.TheInside.the_row _ _ _ _
    (recorded_send _ _ _ Desk.TheInside.the_type.to_one
    (struct_send (struct.shape Desk.TheInside.the_type) (
      search (sendable, crosses, policy_send, policy_sync) depth 20 fits 20000,
      (
        search sendable,
        (
          search sendable,
          (
            board_send,
            (
              journal_send,
              (
                search (list_send, job_send) depth 20,
                (search sendable, (search sendable, (search sendable, (search (sendable, loss_send) depth 20, (search sendable depth 20, tt))))),
              ),
            ),
          ),
        ),
      ),
    )))
