-- A server may go to another thread: said part by part. Of what a session's transaction wrote it has ghost data.
use denote.Param.Send.{AllSend, IsSend, recorded_send, sendable, struct_send}
use denote.Struct.Declared as Structs
use Rattle.std.proofs.Crossing.{crosses}
use Rattle.server.specs.contracts.server.Server as Server
use Rattle.server_locks.proofs.metadata_locks.locks.MetaLocks.TheSendSync as names
use Rattle.server_locks.proofs.row_locks.lock_table.RowLocks.TheSendSync as rows
use Rattle.server_log.proofs.log.whole.Log.TheSendSync as log
use Rattle.server_model.proofs.counter.Counter.TheSendSync as counter
use Rattle.server_model.proofs.session.Waiting.TheSendSync as waiting
use Rattle.server_sessions.specs.contracts.events_size.EventsSize as EventsSize
use Rattle.server_sessions.specs.contracts.live_session.LiveSession as LiveSession
use Rattle.server_sessions.specs.contracts.live_sessions.all_sessions.Sessions as Sessions
use Rattle.server_sessions.specs.contracts.live_sessions.session_list.SessionList as SessionList
use Rattle.server_storage.proofs.storage.Storage.TheSendSync as storage

events_size_send : IsSend EventsSize.the_row
events_size_send = search (sendable, crosses) depth 60 fits 20000

live_session_send : IsSend LiveSession.the_row
live_session_send =
    let all : AllSend (Structs.shape LiveSession.TheInside.the_type).fields = (search sendable, (search sendable, (search sendable, (events_size_send, (search (sendable, crosses) depth 60 fits 20000, (search sendable, tt)))))) in
    let inside : IsSend LiveSession.TheInside.the_row = recorded_send _ _ _ (LiveSession.TheInside.the_type).to_one (struct_send (Structs.shape LiveSession.TheInside.the_type) all) in
    search (inside, sendable) depth 20

session_list_send : IsSend SessionList.the_row
session_list_send =
    let all : AllSend (Structs.shape SessionList.TheInside.the_type).fields = (search sendable, (search (live_session_send, sendable, crosses) depth 60 fits 20000, (search (waiting.the_send, sendable, crosses) depth 60 fits 20000, (rows.the_send, (names.the_send, tt))))) in
    let inside : IsSend SessionList.TheInside.the_row = recorded_send _ _ _ (SessionList.TheInside.the_type).to_one (struct_send (Structs.shape SessionList.TheInside.the_type) all) in
    search (inside, sendable) depth 20

sessions_send : IsSend Sessions.the_row
sessions_send =
    let all : AllSend (Structs.shape Sessions.TheInside.the_type).fields = (search (sendable, crosses) depth 60 fits 20000, (search sendable depth 40, (log.the_send, (session_list_send, (search (counter.the_send, sendable, crosses) depth 60 fits 20000, tt))))) in
    let inside : IsSend Sessions.TheInside.the_row = recorded_send _ _ _ (Sessions.TheInside.the_type).to_one (struct_send (Structs.shape Sessions.TheInside.the_type) all) in
    search (inside, sendable) depth 20

pub server_send : IsSend Server.the_row
server_send =
    let all : AllSend (Structs.shape Server.TheInside.the_type).fields = (storage.the_send, (sessions_send, (search (sendable, crosses) depth 60 fits 20000, (search (sendable, crosses) depth 60 fits 20000, tt)))) in
    let inside : IsSend Server.TheInside.the_row = recorded_send _ _ _ (Server.TheInside.the_type).to_one (struct_send (Structs.shape Server.TheInside.the_type) all) in
    search (inside, sendable) depth 20
