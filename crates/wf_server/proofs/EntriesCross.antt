-- Entries may be lent to other threads.
use denote.Hole.{as_row}
use denote.Param.Send.{IsSync, sendable}
use denote.Param.SendFields.{declared_sync, variants_sync}
use Rattle.std.proofs.Crossing.{crosses}
use Rattle.basics.specs.contracts.shared.Shared as Shared
use Rattle.refutation_tree.specs.contracts.tree.Tree as Tree
use Rattle.refutation_tree.proofs.tree.Branches.TheLaws.TheKnot as knot
use Rattle.wf_talk.specs.contracts.entry.Entry as Entry
use Rattle.wf_talk.specs.contracts.reply.Denial as Denial
use Rattle.wf_talk.specs.contracts.reply.Face as Face
use Rattle.wf_talk.specs.contracts.reply.Reply as Reply
use Rattle.wf_talk.specs.contracts.request.Ask as Ask
use Rattle.wf_talk.proofs.reply.Face.TheSendSync as faces
use Rattle.wf_talk.proofs.request.Ask.TheSendSync as asks

tree_sync : IsSync (as_row (Shared.the_field Tree.the_row))
tree_sync = search (sendable, crosses, knot.crosses) depth 30 fits 20000

face_sync : IsSync (as_row Face.the_field)
face_sync = search (faces.the_field_sync, sendable, crosses) depth 20

ask_sync : IsSync (as_row Ask.the_field)
ask_sync = search (asks.the_field_sync, sendable, crosses) depth 20

-- variant by variant
denial_sync : IsSync Denial.the_row
denial_sync =
    variants_sync Denial.enum (
      tt,
      (
        tt,
        (
          tt,
          (
            search (tree_sync, sendable, crosses) depth 20,
            (
              tt,
              (
                tt,
                (
                  tt,
                  (
                    tt,
                    (
                      search (sendable, crosses) depth 20,
                      (
                        search (sendable, crosses) depth 20,
                        (
                          search (sendable, crosses) depth 20,
                          (
                            search (sendable, crosses) depth 20,
                            (
                              search (tree_sync, sendable, crosses) depth 20,
                              (
                                search (sendable, crosses) depth 20,
                                (
                                  tt,
                                  (
                                    search (sendable, crosses) depth 20,
                                    (
                                      tt,
                                      (
                                        tt,
                                        (
                                          tt,
                                          (
                                            tt,
                                            (search (tree_sync, sendable, crosses) depth 20, tt),
                                          ),
                                        ),
                                      ),
                                    ),
                                  ),
                                ),
                              ),
                            ),
                          ),
                        ),
                      ),
                    ),
                  ),
                ),
              ),
            ),
          ),
        ),
      ),
    )

reply_sync : IsSync Reply.the_row
reply_sync =
    variants_sync Reply.enum (
      search (sendable, crosses) depth 20,
      (
        search (sendable, crosses) depth 20,
        (
          tt,
          (
            tt,
            (
              search (sendable, crosses) depth 20,
              (
                tt,
                (
                  search (sendable, crosses) depth 20,
                  (
                    (face_sync, tt),
                    (
                      search (sendable, crosses) depth 20,
                      (
                        search (sendable, crosses) depth 20,
                        (
                          (denial_sync, tt),
                          (search (sendable, crosses) depth 20, (tt, (search (sendable, crosses) depth 20, tt))),
                        ),
                      ),
                    ),
                  ),
                ),
              ),
            ),
          ),
        ),
      ),
    )

pub entry_sync : IsSync Entry.the_row
entry_sync =
    declared_sync Entry.the_type (search (sendable, crosses), (search (sendable, crosses), (search (sendable, crosses), (ask_sync, (reply_sync, tt)))))
