-- Which case is asked about.
use Rattle.std.specs.Prelude.{ℕ, Option, None, Some}
use Rattle.wf_talk.specs.declared.request.Request.{Request}
use Rattle.wf_talk.specs.declared.request.Request.TheVariants as request
use Rattle.wf_talk.specs.declared.request.Ask.{Ask}
use Rattle.wf_talk.specs.declared.request.Ask.TheVariants as ask

-- the case that a request names by its number
abbrev pub case_of_request : Request → Option ℕ
case_of_request (request.OpenCase flow) = None
case_of_request (request.Claim n step user) = Some n
case_of_request (request.Finish n step user) = Some n
case_of_request (request.GiveBack n step user) = Some n
case_of_request (request.Release by n step) = Some n
case_of_request (request.Withdraw by n) = Some n
case_of_request (request.Change by edit) = None
case_of_request (request.Show n) = Some n
case_of_request (request.Worklist user) = None
case_of_request (request.WhatIf by edit) = None

-- the case that what was asked names
abbrev pub case_of_ask : Ask → Option ℕ
case_of_ask (ask.Request r) = case_of_request r
case_of_ask (ask.Bad bad) = None
