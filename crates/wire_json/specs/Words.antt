-- Inside: the rows of requests and of edits by the words that the code knows.
use Rattle.std.specs.Prelude.{ℕ, [], ◌∷◌, codes, slice_index_or, Result, Ok}
use Rattle.serde_json.specs.Data.{Data}
use Rattle.basics.specs.Laws.Reading.{◌>>=◌, check, each}
use Rattle.wf_talk.specs.declared.request.Request.{Request}
use Rattle.wf_talk.specs.declared.request.Request.TheVariants.{Show}
use Rattle.wf_talk.specs.declared.request.Bad.{Bad}
use Rattle.wf_talk.specs.declared.request.Bad.TheVariants.{Key}
use Rattle.wf_talk.specs.declared.edit.Edit.{Edit}
use Rattle.wf_talk.specs.declared.edit.Edit.TheVariants.{Retire}
use Rattle.wire_json.specs.declared.word.Word.{Word}
use Rattle.wire_json.specs.declared.word.Word.TheVariants as word
use Rattle.wire_json.specs.declared.word.EditWord.{EditWord}
use Rattle.wire_json.specs.declared.word.EditWord.TheVariants as edit
use Rattle.wire_json.specs.declared.plain.Act.{Act}
use Rattle.wire_json.specs.Plain.{request_of}
use Rattle.wire_json.specs.Requests.{Row, Reading, rows, edits, row, has_form, the_case, the_name}
use Rattle.wire_json.specs.Requests.{case, step, user, request_by, asked_by, change_by, what_if_in}

abbrev request_row : ℕ → Row Request
request_row n = slice_index_or rows n (row [] [] (λ d. Show 0))

abbrev edit_at : ℕ → Row Edit
edit_at n = slice_index_or edits n (row [] [] (λ d. Retire []))

abbrev pub row_of_edit : EditWord → Row Edit
row_of_edit edit.AddUser = edit_at 0
row_of_edit edit.Leave = edit_at 1
row_of_edit edit.Enrol = edit_at 2
row_of_edit edit.Dismiss = edit_at 3
row_of_edit edit.Relate = edit_at 4
row_of_edit edit.Unrelate = edit_at 5
row_of_edit edit.Permit = edit_at 6
row_of_edit edit.Forbid = edit_at 7
row_of_edit edit.Retire = edit_at 8

-- what is read for a word
abbrev pub reading_of_word : Word → Reading
reading_of_word word.Open = asked_by (request_row 0)
reading_of_word word.Claim = asked_by (request_row 1)
reading_of_word word.Finish = asked_by (request_row 2)
reading_of_word word.GiveBack = asked_by (request_row 3)
reading_of_word word.Release = asked_by (request_row 4)
reading_of_word word.Withdraw = asked_by (request_row 5)
reading_of_word word.View = asked_by (request_row 6)
reading_of_word word.Worklist = asked_by (request_row 7)
reading_of_word (word.Change e) = change_by (row_of_edit e)
reading_of_word word.WhatIf = what_if_in

-- what a user asks of a step
abbrev pub act_by : Act → Reading
act_by a =
    request_by (codes "do" ∷ codes "lane" ∷ []) (case ∷ step ∷ user ∷ [])
    (λ d. request_of a (the_case d) (the_name step d) (the_name user d))

-- an edit by its row
abbrev pub edit_by : Row Edit → Data → Result Edit Bad
edit_by r d = each (λ _ key. check (has_form d key) (Key key)) tt r.keys >>= (λ _. Ok (r.is d))
